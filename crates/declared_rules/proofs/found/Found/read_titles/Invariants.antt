-- What is kept: those that were passed are looked at.
use Rattle.std.proofs.Common.{List, take}
use Rattle.std.specs.List.{flat_map}
use Rattle.tla_tree.specs.Tree.{Tree}
use Rattle.declared_rules.specs.Finding.{Adds}
use Rattle.declared_rules.specs.Titles.{read_parts}
use Rattle.declared_rules.proofs.found.Found.read_titles.Given as goal

abbrev pub invariant-loop-definition : goal.invariant-loop-definition
invariant-loop-definition l = (ts : List Tree) → Adds ts l.fn.self l.self (flat_map (read_parts) (take l.definition-index l.list))
