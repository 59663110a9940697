-- What is kept: those that were passed are looked at.
use Rattle.std.proofs.Common.{List, take}
use Rattle.std.specs.List.{flat_map}
use Rattle.tla_tree.specs.Tree.{Tree}
use Rattle.declared_rules.specs.Finding.{Joins}
use Rattle.declared_rules.specs.Titles.{passed_offences}
use Rattle.declared_rules.proofs.found.Found.passed_names.Given as goal

abbrev pub invariant-loop-name : goal.invariant-loop-name
invariant-loop-name l = (ts : List Tree) → Joins ts l.fn.self l.self (flat_map (passed_offences l.place) (take l.name-index l.names))
