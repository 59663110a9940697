-- What is kept: the first of the offences of the processes that were passed.
use Rattle.std.proofs.Common.{List, None}
use Rattle.tla_tree.specs.Tree.{Word}
use Rattle.pcal_tree.specs.InMemory.{process_at}
use Rattle.read_rules.specs.Levels.{Levels}
use Rattle.read_rules.specs.EarlyReads.{offending_process}
use Rattle.read_rules.specs.NumbersIn.{AreNumbers, AreLevels}
use Rattle.read_rules.proofs.FoundLaws.{Found}
use Rattle.read_rules.proofs.identities.of_processes.Given as goal

abbrev pub invariant-loop-process : goal.invariant-loop-process
invariant-loop-process l = (gs : List Word) (ls : Levels) → AreNumbers l.numbers gs → AreLevels l.levels ls → Found (λ p. offending_process gs ls (process_at l.pool p)) l.processes l.process-index None l.found
