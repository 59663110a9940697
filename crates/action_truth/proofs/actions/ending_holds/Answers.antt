-- Proves what Terminating says with an argument, and without one.
use Rattle.std.proofs.Common.{Option, sym, subst}
use Rattle.tla_value.specs.declared.stop.EvalStop.{EvalStop}
use Rattle.tla_value.specs.Value.{Value}
use Rattle.value_forms.specs.Gives.{Stops, Tells}
use Rattle.action_truth.specs.Pairs.{action_in, ending}
use Rattle.action_truth.proofs.EndingLaws.{ending_unknown}
use Rattle.action_truth.proofs.actions.ending_holds.Goals as goal

pub returns-in-Some : goal.returns-in-Some
returns-in-Some c = λ acts.
    subst (λ (k : EvalStop). Stops k (action_in c.args.pair.now acts (ending c.args.pair.now c.args.e) c.args.v.now)) (sym c.unknown.ensures) (ending_unknown c.args.pair.now c.args.e acts c.args.v.now _ c.in-Some.is)

pub returns-in-None : goal.returns-in-None
returns-in-None c = λ acts.
    subst (λ (o : Option Value). Tells c.ending_true.result (action_in c.args.pair.now acts (ending c.args.pair.now c.args.e) o)) (sym c.in-None.is) (c.ending_true.ensures acts)
