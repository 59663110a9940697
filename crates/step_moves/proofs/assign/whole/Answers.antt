-- Proves that a name without a value is no variable.
use Rattle.std.proofs.Common.{Option, ◌∙◌, sym, ap, subst}
use Rattle.std.specs.Option.{option_copied}
use Rattle.value_forms.specs.Gives.{Stops}
use Rattle.tla_value.specs.declared.stop.EvalStop.{EvalStop}
use Rattle.action_builder.specs.laws.WrittenScope.{written_part}
use Rattle.step_moves.proofs.LeftLaws.{no_variable}
use Rattle.step_moves.proofs.assign.whole.Goals as goal

pub returns-in-None-clause-part : goal.returns-in-None-clause-part
returns-in-None-clause-part c P has =
    subst (λ (s : EvalStop). Stops s (written_part P c.args.variable.now)) (sym c.no_part.ensures)
    (no_variable P c.args.state.now c.args.variable.now has (sym c.get.ensures ∙ ap (λ (o : Option _). option_copied o) c.in-None.is))
