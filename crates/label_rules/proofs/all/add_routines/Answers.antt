-- Proves that all that procedures and what runs offend is found.
use Rattle.std.proofs.Common.{◌++◌, List, map, sym, ap, ◌∙◌, subst}
use Rattle.std.specs.List.{flat_map}
use Rattle.std.proofs.lemmas.Result.{on_ok_weaker}
use Rattle.pcal_tree.specs.declared.algorithm.Procedure.{Procedure}
use Rattle.pcal_tree.specs.InMemory.{procedure_at, main_at}
use Rattle.pcal_tree.specs.OffencesLabels.{of_procedure, of_main}
use Rattle.pcal_tree.specs.laws.MacroSummaries.{summary_effect}
use Rattle.label_steps.specs.KnownIn.{AreMacros}
use Rattle.label_rules.proofs.AddedLaws.{added_then}
use Rattle.label_rules.proofs.all.add_routines.Goals as goal

pub returns : goal.returns
returns c =
    on_ok_weaker c.add_main.result (λ h ms k.
    let ts = c.args.pool.now in
    let a = c.args.algorithm.now in
    added_then c.args.found.now.items c.add_procedures.new.found.items c.add_main.new.found.items (flat_map (of_procedure (summary_effect ms)) (map (procedure_at ts) a.procedures.items)) (of_main (summary_effect ms) (main_at ts a.main))
    (c.in_ok-add_procedures.ensures.told ms k ∙ ap (λ (ps : List Procedure). c.args.found.now.items ++ flat_map (of_procedure (summary_effect ms)) (map (procedure_at ts) ps)) c.deref.ensures.value)
    (h ms (subst (λ z. AreMacros z ms) (sym c.in_ok-add_procedures.ensures.known) k))) c.add_main.ensures
