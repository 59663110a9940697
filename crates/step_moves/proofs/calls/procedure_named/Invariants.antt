-- What the loop keeps: none of the procedures that were looked at has the name.
use Rattle.std.proofs.Common.{◌≡◌, ◌+◌, drop, map}
use Rattle.pcal_tree.specs.Algorithm.{numbered, procedure_routine, first_procedure}
use Rattle.pcal_tree.specs.InMemory.{procedure_at}
use Rattle.pcal_tree.specs.Calls.{routine_named}
use Rattle.step_moves.specs.Programs.{program_at}
use Rattle.step_moves.proofs.calls.procedure_named.Given as goal

abbrev pub invariant-loop-i : goal.invariant-loop-i
invariant-loop-i l =
    let ts = l.runner.program.pool.now in
    let n = first_procedure (program_at l.runner.program).algorithm in
    let ps = l.runner.procedures.now in
    routine_named l.name (numbered procedure_routine (n + l.i) (map (procedure_at ts) (drop l.i ps))) ≡ routine_named l.name (numbered procedure_routine n (map (procedure_at ts) ps))
