-- Proves that the first offence of identifiers is found.
use Rattle.pcal_tree.specs.InMemory.{process_at}
use Rattle.pcal_tree.specs.OffencesSelf.{selves}
use Rattle.read_rules.proofs.FoundLaws.{found_more}
use Rattle.read_rules.proofs.SelfLaws.{used_by_identity, selves_all}
use Rattle.read_rules.proofs.selves.with_processes.Goals as goal

pub loop-process-preserved : goal.loop-process-preserved
loop-process-preserved c =
    found_more (λ p. selves (used_by_identity (process_at c.args.pool.now p))) c.args.processes.now c.loop-process.process-index c.process-item.result c.args.so_far c.loop-process.found c.in_ok-found.found c.process-item.is
    c.loop-process-test.true c.in_ok-found.ensures c.loop-process.invariant

pub returns : goal.returns
returns c = selves_all used_by_identity (process_at c.args.pool.now) c.args.processes.now c.loop-process.process-index c.args.so_far c.loop-process.found c.loop-process-test.false c.loop-process.invariant
