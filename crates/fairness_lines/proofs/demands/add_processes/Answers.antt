-- Proves that the demands of one process more are added.
use Rattle.std.proofs.Common.{◌<◌, map, refl, arith}
use Rattle.tla_tree.proofs.PoolNumbers.{past_at}
use Rattle.pcal_tree.specs.InMemory.{process_at, algorithm_at, past_process}
use Rattle.written_names.specs.Units.{naming_of}
use Rattle.fairness_lines.specs.Asked.{asked_of_process, asked_of_processes}
use Rattle.fairness_lines.specs.DemandsAt.{all_asked}
use Rattle.fairness_lines.proofs.AskedLaws.{numbered_more}
use Rattle.fairness_lines.proofs.demands.add_processes.Goals as goal

pub loop-process-preserved : goal.loop-process-preserved
loop-process-preserved c = (
  λ ts t.
      let f = naming_of c.args.draft.now.naming.now in
      let a = algorithm_at ts c.args.draft.now.algorithm.now in
      numbered_more (λ n ps. asked_of_processes f a n (map (process_at ts) ps)) (λ n p. asked_of_process f a n (process_at ts p)) (λ n p ps. refl) (λ n. refl)
      c.args.list.now c.loop-process.process-index c.loop-process.number c.in_ok-number.number c.process-item.result c.process-item.is c.loop-process-test.true c.in_ok-number.ensures
      (all_asked ts c.loop-process.into.items) (all_asked ts c.add_process.new.into.items) _
      (c.in_ok-add_process.ensures.asked ts t) (c.loop-process.invariant.0 ts t),
  λ m h l.
      let below = past_at past_process c.args.list.now c.loop-process.process-index c.process-item.result c.process-item.is c.loop-process-test.true in
      let less : c.process-item.result.identity < m = omega (arith, below, l) in
      c.in_ok-add_process.ensures.within m (c.loop-process.invariant.1 m h l) less,
)
