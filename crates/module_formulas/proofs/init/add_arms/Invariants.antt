-- What is kept: all numbers are of the pool, two for each process, and what is there, with the arms of those that are left, is the whole.
use Rattle.std.proofs.Common.{◌≡◌, ◌+◌, ◌*◌, ◌++◌, length, drop, map}
use Rattle.std.specs.List.{flat_map}
use Rattle.tla_tree.specs.Pool.{at}
use Rattle.module_tree.specs.Formulas.{self, named}
use Rattle.pcal_tree.specs.Algorithm.{numbered}
use Rattle.pcal_tree.specs.InMemory.{process_at}
use Rattle.pcal_tree.specs.Takers.{taken_process}
use Rattle.pcal_tree.specs.Program.{Program}
use Rattle.draft.specs.Drafts.{IsDraft}
use Rattle.module_formulas.specs.Starts.{arm}
use Rattle.module_formulas.proofs.Grown.{Grows}
use Rattle.module_formulas.proofs.init.add_arms.Given as goal

abbrev pub invariant-loop-one : goal.invariant-loop-one
invariant-loop-one l =
    Grows l.fn.pool l.pool l.out.items
    × (length l.out.items ≡ length l.fn.out.items + 2 * l.one-index)
    × ((P : Program) → IsDraft l.fn.pool l.draft P → at l.fn.pool l.this ≡ named self
    → map (at l.pool) l.out.items ++ flat_map (arm P) (numbered taken_process l.number (map (process_at l.fn.pool) (drop l.one-index l.list)))
    ≡ map (at l.fn.pool) l.fn.out.items ++ flat_map (arm P) (numbered taken_process l.fn.first (map (process_at l.fn.pool) l.list)))
