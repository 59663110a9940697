-- Proves that each of the processes is written.
use Rattle.std.proofs.Common.{◌∙◌, arith}
use Rattle.tla_tree.proofs.PoolNumbers.{Keeps-then, past_at}
use Rattle.pcal_tree.specs.InMemory.{process_at, past_process}
use Rattle.macro_arguments.proofs.Lists.{made_more, made_all}
use Rattle.expansion.proofs.AlgorithmLaws.{process_put, processes_grow, process_grown, processes_made}
use Rattle.expansion.proofs.algorithm.processes.Goals as goal

pub process-requires-clause-there : goal.process-requires-clause-there
process-requires-clause-there c =
    let past = past_at past_process c.args.list.now c.loop-one.one-index c.one-item.result c.one-item.is c.loop-one-test.true in omega (arith, past, c.requires.there, c.loop-one.invariant.0.longer)

pub loop-one-preserved : goal.loop-one-preserved
loop-one-preserved c =
    let past = past_at past_process c.args.list.now c.loop-one.one-index c.one-item.result c.one-item.is c.loop-one-test.true in
    let old = c.args.pool.now in
    let ms = c.args.macros.now in
    let said = c.in_ok-process.ensures in
    let kept = c.loop-one.invariant.0 in (
      Keeps-then _ _ _ kept said.kept,
      made_more past_process process_at (process_put ms old) processes_grow c.loop-one.pool c.process.new.pool said.kept c.loop-one.made.items c.args.list.now c.loop-one.one-index c.one-item.result c.in_ok-process.field-0
          c.loop-one.invariant.1 c.one-item.is c.loop-one-test.true said.within
          (said.made ∙ process_grown old c.loop-one.pool kept ms c.requires.called c.one-item.result (omega (arith, past, c.requires.there))) c.push.new.self.items c.in_ok-push.ensures.items,
    )

pub returns-clause-made : goal.returns-clause-made
returns-clause-made c =
    let old = c.args.pool.now in
    let ms = c.args.macros.now in
    processes_made ms old c.loop-one.pool c.loop-one.made.items c.args.list.now (made_all past_process process_at (process_put ms old) c.loop-one.pool c.loop-one.made.items c.args.list.now c.loop-one.one-index c.loop-one-test.false c.loop-one.invariant.1)
