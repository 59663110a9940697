-- What the loop keeps: the values so far, with what is left, are the whole.
use Rattle.std.proofs.Common.{◌≡◌, drop}
use Rattle.tla_tree.specs.Pool.{at}
use Rattle.tla_value.specs.Value.{in_order}
use Rattle.value_forms.proofs.StopLaws.{behind}
use Rattle.step_moves.specs.StatesOf.{state_of}
use Rattle.step_meaning.proofs.SpreadLaws.{value_each}
use Rattle.step_meaning.proofs.spread.each_value.Given as goal

abbrev pub invariant-loop-identifier : goal.invariant-loop-identifier
invariant-loop-identifier l =
    behind l.all.items (in_order (value_each l.origin.program (at l.origin.program.pool.now l.e) (state_of l.state)) (drop l.identifier-index l.ids))
    ≡ in_order (value_each l.origin.program (at l.origin.program.pool.now l.e) (state_of l.state)) l.ids
