-- What is kept: the names of those that were passed are added.
use Rattle.std.proofs.Common.{◌≤◌, List, length, take}
use Rattle.std.specs.List.{flat_map}
use Rattle.tla_tree.specs.Tree.{Tree}
use Rattle.declared_rules.specs.Met.{Adds, words_within}
use Rattle.declared_rules.proofs.met.Met.reads.Given as goal

abbrev pub invariant-loop-definition : goal.invariant-loop-definition
invariant-loop-definition l = (ts : List Tree) → length ts ≤ length l.fn.self.marks.items → Adds ts l.fn.self l.self (flat_map (words_within ts) (take l.definition-index l.list))
