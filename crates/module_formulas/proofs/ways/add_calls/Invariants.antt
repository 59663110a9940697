-- What is kept: what is there, with the calls of the labels that are left, is the whole; and all numbers are of the pool.
use Rattle.std.proofs.Common.{◌≡◌, ℕ, ◌<◌, ◌++◌, List, drop, map}
use Rattle.tla_tree.specs.Tree.{Tree}
use Rattle.tla_tree.specs.Pool.{at}
use Rattle.module_tree.specs.Formulas.{self, named}
use Rattle.pcal_tree.specs.Algorithm.{Routine}
use Rattle.pcal_tree.specs.Program.{Program}
use Rattle.written_names.specs.Units.{naming_of}
use Rattle.module_write.specs.InMemory.{ways_at, WaysIn}
use Rattle.module_formulas.specs.TakersIn.{taker_at, taken}
use Rattle.module_formulas.specs.LabelWays.{label_way}
use Rattle.module_formulas.proofs.ways.add_calls.Given as goal

abbrev pub invariant-loop-label : goal.invariant-loop-label
invariant-loop-label l =
    ((ts : List Tree) (P : Program) (u : Routine) → at ts l.caller.this ≡ named self → naming_of l.draft.naming.now ≡ P.naming → u.number ≡ l.unit
    → ways_at ts l.out.items ++ map (label_way P (taken (taker_at ts l.caller.taker) u)) (drop l.label-index l.labels)
    ≡ ways_at ts l.fn.out.items ++ map (label_way P (taken (taker_at ts l.caller.taker) u)) l.labels)
    × ((m : ℕ) → l.caller.this < m → WaysIn m l.fn.out.items → WaysIn m l.out.items)
