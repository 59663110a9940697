-- Proves that the process of the number is the prepared one.
use Rattle.std.proofs.Common.{◌-◌, ◌<◌, length, ap, sym, ◌∙◌, arith}
use Rattle.tla_tree.proofs.PoolNumbers.{past_at}
use Rattle.pcal_tree.specs.InMemory.{main_at, past_process, past_statements, past_main}
use Rattle.step_moves.specs.Programs.{program_at}
use Rattle.step_spots.specs.InMemory.{routine_at}
use Rattle.step_meaning.proofs.OwnLaws.{own_prepared, made}
use Rattle.step_meaning.proofs.stage.own_routine.Goals as goal

pub returns-else-own-first-2-clause-prepared : goal.returns-else-own-first-2-clause-prepared
returns-else-own-first-2-clause-prepared c =
    let ts = c.args.stage.now.program.pool.now in
    let P = program_at c.args.stage.now.program in
    (λ k. made ts c.args.own.now.number c.index-process.result.now (c.deref-in-Processes.ensures.value k) (c.deref-in-Processes-2.ensures.value k))
    ∙ own_prepared ts P P.algorithm.main c.in-Processes.list.items (routine_at ts c.args.own.now) (c.args.own.now.number - c.in_ok-first-in-Processes.first) c.index-process.result.now
    (sym (ap (main_at ts) c.in-Processes.is) ∙ c.requires.stage.main) c.requires.own
    (omega (arith, c.in_ok-first-in-Processes.ensures, c.if-own-first.false)) (omega (arith, c.if-own-first-2.false, c.len.ensures, c.in-Processes.list.ok)) c.index-process.ensures

pub returns-else-own-first-2-clause-within : goal.returns-else-own-first-2-clause-within
returns-else-own-first-2-clause-within c =
    let less : c.args.own.now.number - c.in_ok-first-in-Processes.first < length c.in-Processes.list.items = omega (arith, c.if-own-first-2.false, c.len.ensures, c.in-Processes.list.ok) in
    let past = past_at past_process c.in-Processes.list.items (c.args.own.now.number - c.in_ok-first-in-Processes.first) c.index-process.result.now c.index-process.ensures less in
    omega (arith, past, ap past_statements c.deref-in-Processes-2.ensures.value, ap past_main c.in-Processes.is, c.requires.stage.main_within)
