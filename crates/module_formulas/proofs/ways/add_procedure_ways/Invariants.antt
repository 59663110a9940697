-- What is kept: what is there, with the disjuncts of the routines that are left, is the whole; and all numbers are of the pool.
use Rattle.std.proofs.Common.{◌≡◌, ℕ, ◌<◌, ◌++◌, List, drop, map}
use Rattle.tla_tree.specs.Tree.{Tree}
use Rattle.tla_tree.specs.Pool.{at}
use Rattle.module_tree.specs.Formulas.{self, named}
use Rattle.pcal_tree.specs.Algorithm.{numbered}
use Rattle.pcal_tree.specs.InMemory.{procedure_at}
use Rattle.pcal_tree.specs.Program.{Program}
use Rattle.written_names.specs.Units.{naming_of}
use Rattle.module_write.specs.InMemory.{ways_at, WaysIn}
use Rattle.action_builder.specs.NextFormula.{own_way}
use Rattle.module_formulas.specs.TakersIn.{taker_at, TakerIn, taken_procedure}
use Rattle.module_formulas.proofs.ways.add_procedure_ways.Given as goal

abbrev pub invariant-loop-one : goal.invariant-loop-one
invariant-loop-one l =
    ((ts : List Tree) (P : Program) → at ts l.caller.this ≡ named self → naming_of l.draft.naming.now ≡ P.naming
    → ways_at ts l.out.items ++ map (own_way P) (numbered (taken_procedure (taker_at ts l.caller.taker)) l.number (map (procedure_at ts) (drop l._one-index l.list)))
    ≡ ways_at ts l.fn.out.items ++ map (own_way P) (numbered (taken_procedure (taker_at ts l.caller.taker)) l.fn.first (map (procedure_at ts) l.list)))
    × ((m : ℕ) → l.caller.this < m → TakerIn m l.caller.taker → WaysIn m l.fn.out.items → WaysIn m l.out.items)
