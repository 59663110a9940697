-- Proves that the first offence of processes is found.
use Rattle.std.proofs.Common.{List, None, ap, ◌∙◌}
use Rattle.std.specs.List.{flat_map}
use Rattle.pcal_tree.specs.Algorithm.{Name}
use Rattle.pcal_tree.specs.InMemory.{process_at}
use Rattle.pcal_tree.specs.Offences.{first}
use Rattle.algorithm_answer.specs.Joined.{joined}
use Rattle.read_rules.specs.EarlyReads.{offending_name, offending_process}
use Rattle.read_rules.proofs.FoundLaws.{found_more, found_all, flat_mapped}
use Rattle.read_rules.proofs.identities.of_processes.Goals as goal

pub loop-process-preserved : goal.loop-process-preserved
loop-process-preserved c = λ gs ls n h.
    found_more (λ p. offending_process gs ls (process_at c.args.pool.now p)) c.args.processes.now c.loop-process.process-index c.process-item.result None c.loop-process.found c.with_names-found.result c.process-item.is c.loop-process-test.true
    (c.with_names-found.ensures gs ls n h ∙ ap (λ (ns : List Name). joined c.loop-process.found (first (flat_map (offending_name gs ls) ns))) (c.deref.ensures.value ∙ c.in_ok-names.ensures))
    (c.loop-process.invariant gs ls n h)

pub returns : goal.returns
returns c = λ gs ls n h.
    found_all (λ p. offending_process gs ls (process_at c.args.pool.now p)) c.args.processes.now c.loop-process.process-index None c.loop-process.found c.loop-process-test.false (c.loop-process.invariant gs ls n h)
    ∙ ap first (flat_mapped (offending_process gs ls) (process_at c.args.pool.now) c.args.processes.now)
