-- Proves that the variable has the value that its declaration gives.
use Rattle.std.proofs.Common.{drop}
use Rattle.step_moves.specs.StatesOf.{state_of}
use Rattle.step_meaning.proofs.FlowLaws.{flows_is}
use Rattle.step_meaning.proofs.LocalLaws.{unbound_seen}
use Rattle.step_meaning.proofs.globals.global.Goals as goal

pub returns-clause-set : goal.returns-clause-set
returns-clause-set c =
    flows_is _ c.set_plain.result _ _ _
    (unbound_seen c.args.program.now c.args.bound.now.names.items c.args.bound.now.values.items _ c.args.one.now c.one.view_is (state_of c.args.state.now) (drop c.args.used.now c.args.choices.now) c.requires.names c.requires.values)
    c.set_plain.ensures.set
