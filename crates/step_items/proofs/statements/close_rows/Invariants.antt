-- What is kept: the rows that were passed have their lists.
use Rattle.std.proofs.Common.{◌≡◌, ◌≤◌, take, length}
use Rattle.tla_tree.specs.Pool.{Keeps}
use Rattle.module_write.specs.InMemory.{branches_at, past_branches}
use Rattle.name_bits.specs.NamesIn.{names_in}
use Rattle.step_items.specs.Branching.{closed_lists}
use Rattle.step_items.proofs.statements.close_rows.Given as goal

abbrev pub invariant-loop-row : goal.invariant-loop-row
invariant-loop-row l =
    Keeps l.fn.pool l.pool × (past_branches l.branches.items ≤ length l.pool)
    × (branches_at l.pool l.branches.items ≡ closed_lists l.order l.place (names_in l.order l.all) l.fn.pool (take (length l.yielded) l.fn.rows.items))
