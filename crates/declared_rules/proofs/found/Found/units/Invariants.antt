-- What is kept: those that were passed are looked at.
use Rattle.std.proofs.Common.{List, take}
use Rattle.std.specs.List.{flat_map}
use Rattle.tla_tree.specs.Tree.{Tree}
use Rattle.module_outside.specs.declared.passed.Passed.{Passed}
use Rattle.module_outside.specs.Passing.{passed_seen}
use Rattle.declared_rules.specs.Finding.{Joins}
use Rattle.declared_rules.specs.Titles.{unit_offences}
use Rattle.declared_rules.proofs.found.Found.units.Given as goal

abbrev pub invariant-loop-unit : goal.invariant-loop-unit
invariant-loop-unit l = (ts : List Tree) → Joins ts l.fn.self l.self (flat_map (λ (u : Passed). unit_offences (passed_seen u)) (take l.unit-index l.list))
