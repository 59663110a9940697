-- What is kept: all numbers are of the pool, and what is there, with the conjuncts of those that are left, is the whole.
use Rattle.std.proofs.Common.{◌≡◌, ◌++◌, drop, map}
use Rattle.tla_tree.specs.Pool.{at}
use Rattle.pcal_tree.specs.Algorithm.{Routine}
use Rattle.pcal_tree.specs.InMemory.{declaration_at}
use Rattle.pcal_tree.specs.Program.{Program}
use Rattle.draft.specs.Drafts.{IsDraft}
use Rattle.module_formulas.specs.TakersIn.{taker_at}
use Rattle.module_formulas.specs.Starts.{local_start, IsLocal}
use Rattle.module_formulas.proofs.Grown.{Grows}
use Rattle.module_formulas.proofs.starts.add_starts.Given as goal

abbrev pub invariant-loop-one : goal.invariant-loop-one
invariant-loop-one l =
    Grows l.fn.pool l.pool l.out.items
    × ((P : Program) (u : Routine) → IsDraft l.fn.pool l.draft P → IsLocal l.local P u
    → map (at l.pool) l.out.items ++ map (local_start P u (taker_at l.fn.pool l.taker)) (map (declaration_at l.fn.pool) (drop l.one-index l.list))
    ≡ map (at l.fn.pool) l.fn.out.items ++ map (local_start P u (taker_at l.fn.pool l.taker)) (map (declaration_at l.fn.pool) l.list))
