-- What is kept: the parts of those that were passed are looked at.
use Rattle.std.proofs.Common.{List, take}
use Rattle.std.specs.List.{flat_map}
use Rattle.tla_tree.specs.Tree.{Tree}
use Rattle.declared_rules.specs.Parts.{definition_parts}
use Rattle.declared_rules.specs.Walking.{Adds}
use Rattle.declared_rules.proofs.walk.Walked.definitions.Given as goal

abbrev pub invariant-loop-definition : goal.invariant-loop-definition
invariant-loop-definition l = (ts : List Tree) → Adds ts l.fn.self l.self (flat_map (definition_parts ts) (take l.definition-index l.list))
