-- What is kept: those that were passed are looked at.
use Rattle.std.proofs.Common.{List, take}
use Rattle.std.specs.List.{flat_map}
use Rattle.tla_tree.specs.Tree.{Tree}
use Rattle.declared_rules.specs.Finding.{Adds}
use Rattle.declared_rules.specs.Titles.{constant_parts}
use Rattle.declared_rules.proofs.found.Found.constants.Given as goal

abbrev pub invariant-loop-name : goal.invariant-loop-name
invariant-loop-name l = (ts : List Tree) → Adds ts l.fn.self l.self (flat_map (constant_parts) (take l.name-index l.names))
