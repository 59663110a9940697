-- What the loop keeps: what was read, with what is left, is the whole.
use Rattle.std.proofs.Common.{◌≡◌, drop}
use Rattle.tla_value.specs.Value.{in_order}
use Rattle.pcal_tree.specs.Program.{read_at}
use Rattle.value_forms.proofs.StopLaws.{behind}
use Rattle.step_moves.specs.StatesOf.{state_of}
use Rattle.step_moves.proofs.reads.all_read.Given as goal

abbrev pub invariant-loop-name : goal.invariant-loop-name
invariant-loop-name l =
    behind l.all.items (in_order (λ x. read_at l.at l.path (state_of l.state x)) (drop l.name-index l.names)) ≡ in_order (λ x. read_at l.at l.path (state_of l.state x)) l.names
