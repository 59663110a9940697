-- Proves that those that were passed have their names.
use Rattle.std.proofs.Common.{sym, subst}
use Rattle.std.proofs.lemmas.Simd.{map-map}
use Rattle.pcal_tree.specs.InMemory.{process_at}
use Rattle.written_names.specs.Units.{asked_process, AddsUnits}
use Rattle.written_names.proofs.UnitLists.{adds_more, adds_all}
use Rattle.written_names.proofs.give.add_processes.Goals as goal

pub loop-process-preserved : goal.loop-process-preserved
loop-process-preserved c = λ ts.
    adds_more (λ p. asked_process (process_at ts p)) c.args.processes.now c.args.giver.now c.loop-process.giver c.process_names.new.giver c.args.units.now.items c.loop-process.units.items c.push.new.self.items c.loop-process.process-index c.process-item.result c.in_ok-names.names
    c.process-item.is c.loop-process-test.true c.in_ok-push.ensures.items (c.loop-process.invariant ts) (c.in_ok-names.ensures ts)

pub returns : goal.returns
returns c = λ ts.
    subst (λ qs. AddsUnits c.args.giver.now c.loop-process.giver c.args.units.now.items c.loop-process.units.items qs) (sym (map-map asked_process (process_at ts) c.args.processes.now))
    (adds_all (λ p. asked_process (process_at ts p)) c.args.processes.now c.args.giver.now c.loop-process.giver c.args.units.now.items c.loop-process.units.items c.loop-process.process-index c.loop-process-test.false (c.loop-process.invariant ts))
