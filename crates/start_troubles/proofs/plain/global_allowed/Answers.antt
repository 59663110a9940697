-- Proves that the value is asked as it is declared.
use Rattle.step_moves.specs.StatesOf.{state_of}
use Rattle.start_troubles.proofs.AskedLaws.{tells_is}
use Rattle.start_troubles.proofs.LocalLaws.{global_seen}
use Rattle.start_troubles.proofs.plain.global_allowed.Goals as goal

pub returns : goal.returns
returns c =
    tells_is c.plain_allowed.result _ _
    (global_seen c.args.program.now c.args.bound.now.names.items c.args.bound.now.values.items _ c.args.one.now (state_of c.args.state.now) c.value_in-v.result.now c.one.view_is c.requires.names c.requires.values c.value_in-v.ensures)
    c.plain_allowed.ensures
