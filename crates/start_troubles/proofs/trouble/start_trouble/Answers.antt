-- Proves that the trouble of the walk is the whole's.
use Rattle.std.proofs.Common.{map}
use Rattle.pcal_tree.specs.Algorithm.{procedure_routines, main_routines}
use Rattle.pcal_tree.specs.InitialStates.{stack_allowed, pc_allowed}
use Rattle.step_moves.specs.InMemory.{actor_at}
use Rattle.step_moves.specs.Programs.{program_at}
use Rattle.step_moves.specs.StatesOf.{state_of}
use Rattle.written_traces.specs.AskedStarts.{as_written, globals_asked, procedures_asked, processes_asked}
use Rattle.start_troubles.proofs.TroubleLaws.{none_met, trouble_met}
use Rattle.start_troubles.proofs.trouble.start_trouble.Goals as goal

pub returns-in-Ok : goal.returns-in-Ok
returns-in-Ok c =
    let P = program_at c.args.origin.now.program in
    let M = as_written P in
    let vs = map (actor_at c.args.origin.now.program.pool.now) c.args.actors.now in
    let s = state_of c.args.state.now in
    let us = procedure_routines P.algorithm in
    none_met (globals_asked M P.algorithm.globals s) (procedures_asked M P vs us s) (processes_asked M P vs (main_routines P.algorithm P.algorithm.main) s) (stack_allowed P us vs s) (pc_allowed P vs s) _ c.in-Ok.ensures

pub returns-in-Err : goal.returns-in-Err
returns-in-Err c =
    let P = program_at c.args.origin.now.program in
    let M = as_written P in
    let vs = map (actor_at c.args.origin.now.program.pool.now) c.args.actors.now in
    let s = state_of c.args.state.now in
    let us = procedure_routines P.algorithm in
    trouble_met c.trouble_of_stop.result c.in-Err.stop (globals_asked M P.algorithm.globals s) (procedures_asked M P vs us s) (processes_asked M P vs (main_routines P.algorithm P.algorithm.main) s) (stack_allowed P us vs s) (pc_allowed P vs s)
    c.in-Err.ensures c.trouble_of_stop.ensures
