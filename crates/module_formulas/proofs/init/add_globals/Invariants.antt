-- What is kept: all numbers are of the pool, and what is there, with the conjuncts of those that are left, is the whole.
use Rattle.std.proofs.Common.{◌≡◌, ◌++◌, drop, map}
use Rattle.tla_tree.specs.Pool.{at}
use Rattle.pcal_tree.specs.InMemory.{declaration_at}
use Rattle.module_formulas.specs.Starts.{global_start}
use Rattle.module_formulas.proofs.Grown.{Grows}
use Rattle.module_formulas.proofs.init.add_globals.Given as goal

abbrev pub invariant-loop-one : goal.invariant-loop-one
invariant-loop-one l =
    Grows l.fn.pool l.pool l.out.items
    × (map (at l.pool) l.out.items ++ map global_start (map (declaration_at l.fn.pool) (drop l.one-index l.list))
    ≡ map (at l.fn.pool) l.fn.out.items ++ map global_start (map (declaration_at l.fn.pool) l.list))
