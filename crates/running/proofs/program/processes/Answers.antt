-- Proves that each of the processes is prepared.
use Rattle.std.proofs.Common.{◌≡◌, ◌+◌, ap, ◌∙◌, arith}
use Rattle.tla_tree.proofs.PoolNumbers.{Keeps-then, past_at}
use Rattle.pcal_tree.specs.InMemory.{process_at, past_process}
use Rattle.draft.proofs.Grown.{draft_kept}
use Rattle.expansion.proofs.AlgorithmLaws.{processes_grow}
use Rattle.step_moves.specs.Prepared.{prepared_process}
use Rattle.running.proofs.NumberedLaws.{numbered_more, within_more, numbered_all}
use Rattle.running.proofs.program.processes.Goals as goal

pub process-requires-clause-there : goal.process-requires-clause-there
process-requires-clause-there c =
    let past = past_at past_process c.args.list.now c.loop-one.one-index c.one-item.result c.one-item.is c.loop-one-test.true in omega (arith, past, c.requires.there, c.loop-one.invariant.0.longer)

pub loop-one-preserved : goal.loop-one-preserved
loop-one-preserved c =
    let old = c.args.pool.now in
    let ts = c.loop-one.pool in
    let us = c.process.new.pool in
    let xs = c.args.list.now in
    let p = c.one-item.result in
    let made = c.loop-one.made.items in
    let kept = c.loop-one.invariant.0 in
    let said = c.in_ok-process.ensures in
    let past = past_at past_process xs c.loop-one.one-index p c.one-item.is c.loop-one-test.true in
    let next : c.in_ok-number.number ≡ c.args.first + (c.loop-one.one-index + 1) = omega (arith, c.in_ok-number.ensures, c.loop-one.invariant.2) in (
      Keeps-then old ts us kept said.kept,
      within_more past_process ts us said.kept made c.in_ok-process.field-0 c.loop-one.invariant.1 said.within c.push.new.self.items c.in_ok-push.ensures.items,
      next,
      λ P is.
          numbered_more past_process process_at processes_grow old (prepared_process P) c.args.first xs ts us said.kept made c.loop-one.one-index c.loop-one.number p c.in_ok-process.field-0
          c.loop-one.invariant.1 (c.loop-one.invariant.3 P is) c.loop-one.invariant.2 c.one-item.is c.loop-one-test.true
          (said.made P (draft_kept old ts kept c.args.draft.now P is) ∙ ap (prepared_process P c.loop-one.number) (processes_grow old ts kept p (omega (arith, past, c.requires.there))))
          c.push.new.self.items c.in_ok-push.ensures.items,
    )

pub returns-clause-made : goal.returns-clause-made
returns-clause-made c = λ P is.
    numbered_all past_process process_at processes_grow c.args.pool.now (prepared_process P) c.args.first c.args.list.now c.loop-one.pool c.loop-one.made.items c.loop-one.one-index c.loop-one-test.false
    (c.loop-one.invariant.3 P is)
