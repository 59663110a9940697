-- Proves that all routines get their names.
use Rattle.std.proofs.Common.{List, map, subst}
use Rattle.std.proofs.lemmas.Result.{on_ok_weaker}
use Rattle.pcal_tree.specs.declared.algorithm.Procedure.{Procedure}
use Rattle.pcal_tree.specs.InMemory.{procedure_at}
use Rattle.written_names.specs.Units.{asked_procedure, AddsUnits}
use Rattle.written_names.proofs.UnitLists.{adds_then}
use Rattle.written_names.proofs.give.add_units.Goals as goal

pub returns : goal.returns
returns c = on_ok_weaker c.add_main.result (λ h ts.
    adds_then c.args.giver.now c.add_procedures.new.giver c.add_main.new.giver c.args.units.now.items c.add_procedures.new.units.items c.add_main.new.units.items _ _
    (subst (λ (ps : List Procedure). AddsUnits c.args.giver.now c.add_procedures.new.giver c.args.units.now.items c.add_procedures.new.units.items (map asked_procedure (map (procedure_at ts) ps))) c.deref.ensures.value (c.in_ok-add_procedures.ensures ts))
    (h ts)) c.add_main.ensures
