-- What is kept: the rows that were passed are finished.
use Rattle.std.proofs.Common.{◌≡◌, ◌≤◌, drop, length, Option}
use Rattle.tla_tree.specs.Tree.{Tree}
use Rattle.tla_tree.specs.Pool.{Keeps}
use Rattle.pcal_tree.specs.Algorithm.{Branches, Routine}
use Rattle.pcal_tree.specs.Program.{Program}
use Rattle.action_builder.specs.Settled.{jumps, jumps_some}
use Rattle.step_items.specs.Branching.{to_end, Rows, past_rows, PlainBranches}
use Rattle.step_items.specs.Desks.{IsDesk}
use Rattle.step_items.specs.Writing.{to_write}
use Rattle.step_items.proofs.RowSteps.{Finishing}
use Rattle.step_items.proofs.statements.finish_rows.Given as goal

abbrev pub invariant-loop-row : goal.invariant-loop-row
invariant-loop-row l =
    Keeps l.fn.pool l.pool × (past_rows l.done.items ≤ length l.pool)
    × ((P : Program) (u : Routine) (x : Option Tree) → IsDesk l.fn.pool l.desk P u x → (bs : Branches)
    → Rows P x l.fn.pool l.inner.before.now (to_write P u l.inner.here.now l.inner.exit.now) jumps l.fn.rows.items bs → l.fn.ends ≡ jumps_some bs → PlainBranches P (to_end P u l.fn.ends l.inner.here.now l.inner.exit.now) bs
    → Finishing P u x l.fn.pool l.inner.before.now l.inner.here.now l.inner.exit.now l.fn.ends l.pool l.done.items (drop (length l.yielded) l.fn.rows.items) bs)
