-- What is kept: the parts of those that were passed are looked at.
use Rattle.std.proofs.Common.{List, take}
use Rattle.std.specs.List.{flat_map}
use Rattle.tla_tree.specs.Tree.{Tree}
use Rattle.declared_rules.specs.Parts.{macro_parts}
use Rattle.declared_rules.specs.Walking.{Adds}
use Rattle.declared_rules.proofs.walk.Walked.macros.Given as goal

abbrev pub invariant-loop-one : goal.invariant-loop-one
invariant-loop-one l = (ts : List Tree) → Adds ts l.fn.self l.self (flat_map (macro_parts ts) (take l.one-index l.list))
