-- What the loop keeps: what is gathered so far, before what the rest gives, is all.
use Rattle.std.proofs.Common.{map, drop}
use Rattle.pcal_tree.specs.Algorithm.{first_process}
use Rattle.pcal_tree.specs.InMemory.{process_at}
use Rattle.pcal_tree.specs.Processes.{all_actors}
use Rattle.step_moves.specs.Programs.{program_at}
use Rattle.step_moves.specs.InMemory.{named_at}
use Rattle.step_moves.proofs.GatherLaws.{Gathering}
use Rattle.step_moves.proofs.gather.all_named.Given as goal

abbrev pub invariant-loop-process : goal.invariant-loop-process
invariant-loop-process l =
    let P = program_at l.program in
    let ts = l.program.pool.now in
    Gathering P (all_actors P (first_process P.algorithm) (map (process_at ts) l.list)) (map (named_at ts) l.all.items) l.number (map (process_at ts) (drop l.process-index l.list))
