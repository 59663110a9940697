-- What is kept: those that were passed are prepared, by their numbers.
use Rattle.std.proofs.Common.{◌≡◌, ◌+◌, ◌≤◌, length, map, take}
use Rattle.tla_tree.specs.Nesting.{greatest}
use Rattle.tla_tree.specs.Pool.{Keeps}
use Rattle.pcal_tree.specs.Algorithm.{numbered}
use Rattle.pcal_tree.specs.InMemory.{process_at, past_process}
use Rattle.pcal_tree.specs.Program.{Program}
use Rattle.draft.specs.Drafts.{IsDraft}
use Rattle.step_moves.specs.Prepared.{prepared_process}
use Rattle.running.proofs.program.processes.Given as goal

abbrev pub invariant-loop-one : goal.invariant-loop-one
invariant-loop-one l =
    Keeps l.fn.pool l.pool × (greatest (map past_process l.made.items) ≤ length l.pool) × (l.number ≡ l.fn.first + l.one-index)
    × ((P : Program) → IsDraft l.fn.pool l.draft P → map (process_at l.pool) l.made.items ≡ numbered (prepared_process P) l.fn.first (map (process_at l.fn.pool) (take l.one-index l.list)))
