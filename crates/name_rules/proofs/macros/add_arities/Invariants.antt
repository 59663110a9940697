-- What is kept: the table has the last procedures, so many.
use Rattle.std.proofs.Common.{◌≡◌, ◌-◌, List, [], length, drop}
use Rattle.tla_tree.specs.Tree.{Tree}
use Rattle.name_rules.specs.Keeping.{AreProcedures, procedures_at}
use Rattle.name_rules.proofs.macros.add_arities.Given as goal

abbrev pub invariant-loop-i : goal.invariant-loop-i
invariant-loop-i l = l.fn.arities ≡ [] → (ts : List Tree) → AreProcedures l.arities (procedures_at ts (drop (length l.procedures - l.i) l.procedures))
