-- Proves that the first offence of processes is found.
use Rattle.std.proofs.Common.{List, [], None, ap, ◌∙◌}
use Rattle.std.specs.List.{flat_map}
use Rattle.pcal_tree.specs.declared.algorithm.Stmt.{Stmt}
use Rattle.pcal_tree.specs.Algorithm.{Name}
use Rattle.pcal_tree.specs.InMemory.{statements_at, process_at}
use Rattle.pcal_tree.specs.Offences.{first}
use Rattle.pcal_tree.specs.OffencesStale.{stale_at, stale_in_process}
use Rattle.algorithm_answer.specs.Joined.{joined}
use Rattle.read_rules.proofs.FoundLaws.{found_more, found_all, flat_mapped}
use Rattle.read_rules.specs.RefusalsIn.{looking}
use Rattle.read_rules.proofs.routines.of_processes.Goals as goal

pub loop-process-preserved : goal.loop-process-preserved
loop-process-preserved c = λ ms ps ds k r.
    found_more (λ p. stale_in_process (looking ms ps) ds (process_at c.args.pool.now p)) c.args.processes.now c.loop-process.process-index c.process-item.result None c.loop-process.found c.in_ok-found.found
    c.process-item.is c.loop-process-test.true
    (c.in_ok-found.ensures ms ps ds k r
    ∙ ap (λ (ss : List Stmt). joined c.loop-process.found (first (flat_map (stale_at ds c.deref.result.now) (looking ms ps [] (statements_at c.args.pool.now ss))))) c.deref-in-loop-process.ensures.value
    ∙ ap (λ (ns : List Name). joined c.loop-process.found (first (flat_map (stale_at ds ns) (looking ms ps [] (statements_at c.args.pool.now c.process-item.result.body.items))))) (c.deref.ensures.value ∙ c.in_ok-identity.ensures))
    (c.loop-process.invariant ms ps ds k r)

pub returns : goal.returns
returns c = λ ms ps ds k r.
    found_all (λ p. stale_in_process (looking ms ps) ds (process_at c.args.pool.now p)) c.args.processes.now c.loop-process.process-index None c.loop-process.found c.loop-process-test.false
    (c.loop-process.invariant ms ps ds k r)
    ∙ ap first (flat_mapped (stale_in_process (looking ms ps) ds) (process_at c.args.pool.now) c.args.processes.now)
