-- What is kept: the parts of those that were passed are looked at.
use Rattle.std.proofs.Common.{List, take}
use Rattle.std.specs.List.{flat_map}
use Rattle.tla_tree.specs.Tree.{Tree}
use Rattle.declared_rules.specs.Parts.{global_parts}
use Rattle.declared_rules.specs.Walking.{Adds}
use Rattle.declared_rules.proofs.walk.Walked.globals.Given as goal

abbrev pub invariant-loop-declaration : goal.invariant-loop-declaration
invariant-loop-declaration l = (ts : List Tree) → Adds ts l.fn.self l.self (flat_map (global_parts ts) (take l.declaration-index l.list))
