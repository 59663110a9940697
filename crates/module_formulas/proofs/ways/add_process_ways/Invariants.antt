-- What is kept: what is there, with the disjuncts of the routines that are left, is the whole; and all numbers are of the pool.
use Rattle.std.proofs.Common.{◌≡◌, ℕ, ◌<◌, ◌≤◌, ◌++◌, List, drop, map}
use Rattle.tla_tree.specs.Tree.{Tree}
use Rattle.tla_tree.specs.Pool.{at}
use Rattle.module_tree.specs.Formulas.{self, named}
use Rattle.pcal_tree.specs.Algorithm.{numbered}
use Rattle.pcal_tree.specs.InMemory.{process_at}
use Rattle.pcal_tree.specs.Program.{Program}
use Rattle.written_names.specs.Units.{naming_of}
use Rattle.module_write.specs.InMemory.{ways_at, WaysIn}
use Rattle.action_builder.specs.NextFormula.{own_way}
use Rattle.pcal_tree.specs.Takers.{taken_process}
use Rattle.tla_tree.specs.Nesting.{greatest}
use Rattle.pcal_tree.specs.InMemory.{past_process}
use Rattle.module_formulas.proofs.ways.add_process_ways.Given as goal

abbrev pub invariant-loop-one : goal.invariant-loop-one
invariant-loop-one l =
    ((ts : List Tree) (P : Program) → at ts l.this ≡ named self → naming_of l.draft.naming.now ≡ P.naming
    → ways_at ts l.out.items ++ map (own_way P) (numbered taken_process l.number (map (process_at ts) (drop l.one-index l.list)))
    ≡ ways_at ts l.fn.out.items ++ map (own_way P) (numbered taken_process l.fn.first (map (process_at ts) l.list)))
    × ((m : ℕ) → l.this < m → greatest (map past_process l.list) ≤ m → WaysIn m l.fn.out.items → WaysIn m l.out.items)
