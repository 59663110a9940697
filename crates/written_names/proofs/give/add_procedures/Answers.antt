-- Proves that those that were passed have their names.
use Rattle.std.proofs.Common.{sym, subst}
use Rattle.std.proofs.lemmas.Simd.{map-map}
use Rattle.pcal_tree.specs.InMemory.{procedure_at}
use Rattle.written_names.specs.Units.{asked_procedure, AddsUnits}
use Rattle.written_names.proofs.UnitLists.{adds_more, adds_all}
use Rattle.written_names.proofs.give.add_procedures.Goals as goal

pub loop-procedure-preserved : goal.loop-procedure-preserved
loop-procedure-preserved c = λ ts.
    adds_more (λ p. asked_procedure (procedure_at ts p)) c.args.procedures.now c.args.giver.now c.loop-procedure.giver c.procedure_names.new.giver c.args.units.now.items c.loop-procedure.units.items c.push.new.self.items c.loop-procedure.procedure-index c.procedure-item.result c.in_ok-names.names
    c.procedure-item.is c.loop-procedure-test.true c.in_ok-push.ensures.items (c.loop-procedure.invariant ts) (c.in_ok-names.ensures ts)

pub returns : goal.returns
returns c = λ ts.
    subst (λ qs. AddsUnits c.args.giver.now c.loop-procedure.giver c.args.units.now.items c.loop-procedure.units.items qs) (sym (map-map asked_procedure (procedure_at ts) c.args.procedures.now))
    (adds_all (λ p. asked_procedure (procedure_at ts p)) c.args.procedures.now c.args.giver.now c.loop-procedure.giver c.args.units.now.items c.loop-procedure.units.items c.loop-procedure.procedure-index c.loop-procedure-test.false (c.loop-procedure.invariant ts))
