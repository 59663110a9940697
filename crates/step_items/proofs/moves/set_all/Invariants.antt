-- What is kept: the rows that were passed are written.
use Rattle.std.proofs.Common.{◌≤◌, Option, length, take}
use Rattle.tla_tree.specs.Tree.{Tree}
use Rattle.tla_tree.specs.Pool.{Keeps}
use Rattle.pcal_tree.specs.Algorithm.{Routine}
use Rattle.pcal_tree.specs.Expand.{graft_all}
use Rattle.pcal_tree.specs.Program.{Program}
use Rattle.module_write.specs.InMemory.{past_items}
use Rattle.proc_stack.specs.Moves.{in_order, moves_at}
use Rattle.right_sides.specs.After.{after_items}
use Rattle.step_items.specs.Desks.{IsDesk}
use Rattle.step_items.specs.Writing.{own_of, Plain, Writes}
use Rattle.step_items.proofs.moves.set_all.Given as goal

abbrev pub invariant-loop-row : goal.invariant-loop-row
invariant-loop-row l =
    Keeps l.fn.pool l.pool
    × (past_items l.out.items ≤ length l.pool)
    × ((P : Program) (u : Routine) (x : Option Tree) → IsDesk l.fn.pool l.desk P u x → Plain P (graft_all (own_of P) (in_order (moves_at l.fn.pool l.rows)))
    → Writes P (after_items l.fn.pool l.after) l.fn.pool l.pool l.fn.out.items l.out.items l.before l.assigned (graft_all (own_of P) (in_order (moves_at l.fn.pool (take l.row-index l.rows)))))
