-- What is kept: what the definitions that were passed read is known.
use Rattle.std.proofs.Common.{List, [], take, reverse}
use Rattle.tla_tree.specs.Tree.{Word}
use Rattle.pcal_tree.specs.InMemory.{definitions_at}
use Rattle.pcal_tree.specs.Reads.{readings}
use Rattle.pcal_tree.proofs.SetLaws.{Same}
use Rattle.read_rules.specs.ReadsIn.{AreReads}
use Rattle.read_rules.proofs.definitions.Reads.add_definitions.Given as goal

abbrev pub invariant-loop-definition : goal.invariant-loop-definition
invariant-loop-definition l = (gs : List Word) → Same l.globals gs → AreReads l.fn.self [] → AreReads l.self (readings gs (reverse (definitions_at l.pool (take l.definition-index l.definitions))))
