-- Proves that the first offence of processes is found.
use Rattle.std.proofs.Common.{None, ap, ◌∙◌}
use Rattle.pcal_tree.specs.InMemory.{process_at}
use Rattle.pcal_tree.specs.Offences.{first}
use Rattle.pcal_tree.specs.OffencesReads.{own_in_sets}
use Rattle.read_rules.proofs.FoundLaws.{found_more, found_all, flat_mapped}
use Rattle.read_rules.proofs.own.of_processes.Goals as goal

pub loop-process-preserved : goal.loop-process-preserved
loop-process-preserved c =
    found_more (λ p. own_in_sets (process_at c.args.pool.now p)) c.args.processes.now c.loop-process.process-index c.process-item.result None c.loop-process.found c.in_ok-found.found c.process-item.is c.loop-process-test.true
    c.in_ok-found.ensures c.loop-process.invariant

pub returns : goal.returns
returns c =
    found_all (λ p. own_in_sets (process_at c.args.pool.now p)) c.args.processes.now c.loop-process.process-index None c.loop-process.found c.loop-process-test.false c.loop-process.invariant
    ∙ ap first (flat_mapped own_in_sets (process_at c.args.pool.now) c.args.processes.now)
