-- What is kept: the parts of those that were passed are looked at.
use Rattle.std.proofs.Common.{List, take}
use Rattle.std.specs.List.{flat_map}
use Rattle.tla_tree.specs.Tree.{Tree}
use Rattle.declared_rules.specs.Parts.{assignment_parts}
use Rattle.declared_rules.specs.Walking.{Adds}
use Rattle.declared_rules.proofs.walk.Walked.assignments.Given as goal

abbrev pub invariant-loop-assignment : goal.invariant-loop-assignment
invariant-loop-assignment l = (ts : List Tree) → Adds ts l.fn.self l.self (flat_map (assignment_parts ts) (take l.assignment-index l.list))
