-- What is kept: the first of the offences of the processes that were passed.
use Rattle.std.proofs.Common.{List, None}
use Rattle.pcal_tree.specs.Algorithm.{Procedure}
use Rattle.pcal_tree.specs.InMemory.{process_at}
use Rattle.pcal_tree.specs.OffencesStale.{stale_in_process}
use Rattle.pcal_tree.specs.Reads.{Reading}
use Rattle.pcal_tree.specs.laws.MacroSpots.{MacroSeen}
use Rattle.read_rules.proofs.FoundLaws.{Found}
use Rattle.read_rules.specs.KnownIn.{Knows}
use Rattle.read_rules.specs.ReadsIn.{AreReads}
use Rattle.read_rules.specs.RefusalsIn.{looking}
use Rattle.read_rules.proofs.routines.of_processes.Given as goal

abbrev pub invariant-loop-process : goal.invariant-loop-process
invariant-loop-process l = (ms : List MacroSeen) (ps : List Procedure) (ds : List Reading) → Knows l.known ms ps → AreReads l.reads ds
    → Found (λ p. stale_in_process (looking ms ps) ds (process_at l.pool p)) l.processes l.process-index None l.found
