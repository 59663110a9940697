-- Proves that all actions are those of procedures and of what runs.
use Rattle.std.proofs.Common.{◌≡◌, List, ◌++◌, map, ap, ◌∙◌, append_assoc}
use Rattle.std.specs.List.{flat_map}
use Rattle.std.proofs.lemmas.Result.{on_ok_weaker}
use Rattle.module_tree.specs.Module as tree
use Rattle.pcal_tree.specs.Algorithm.{Algorithm, first_procedure, first_process}
use Rattle.pcal_tree.specs.InMemory.{procedure_at}
use Rattle.module_write.specs.InMemory.{actions_at}
use Rattle.action_builder.specs.LabelActions.{procedure_takers, taken_procedures}
use Rattle.step_forms.specs.Steps.{routine_steps, main_steps}
use Rattle.module_formulas.specs.TakersIn.{taker_at}
use Rattle.module_write.proofs.InMemoryGrown.{actions_at-kept}
use Rattle.label_actions.proofs.ProgramLaws.{procedures_taken, procedure_one}
use Rattle.label_actions.proofs.UnitLaws.{basis_kept, basis_more}
use Rattle.label_actions.proofs.program.add_all.Goals as goal

pub returns-clause-made : goal.returns-clause-made
returns-clause-made c =
    let ts = c.args.pool.now in
    let us = c.procedure_taker.new.pool in
    let vs = c.add_procedures.new.pool in
    let basis = c.args.basis.now in
    let first = c.first_procedure-first.result in
    let to_us = c.in_ok-taker.ensures.kept in
    let said = c.in_ok-add_procedures.ensures in
    let old = actions_at ts c.args.out.now.items in
    on_ok_weaker c.add_main.result (λ g P a b.
    let bu = basis_kept ts us to_us basis P c.requires.basis b in
    let bv = basis_kept us vs said.kept basis P (basis_more _ _ to_us.longer basis c.requires.basis) bu in
    let procedures : map (procedure_at us) c.deref.result.now ≡ P.algorithm.procedures = ap (map (procedure_at us)) c.deref.ensures.value ∙ ap (λ (z : Algorithm). z.procedures) bu.draft.algorithm in
    let number = c.first_procedure-first.ensures us ∙ ap first_procedure bu.draft.algorithm in
    let takers : taker_at us c.in_ok-taker.taker ≡ procedure_takers P.algorithm.main = c.in_ok-taker.ensures.stands ts ∙ ap (λ (z : Algorithm). procedure_takers z.main) b.draft.algorithm in
    g P a bv (ap (λ (z : Algorithm). z.main) bv.draft.algorithm) (c.in_ok-number.ensures vs ∙ ap first_process bv.draft.algorithm)
    ∙ ap (λ (l : List tree.Action). l ++ main_steps P P.algorithm.main)
    (said.made P a bu (procedure_one P.algorithm first (map (procedure_at us) c.deref.result.now) number procedures)
    ∙ (λ j. actions_at-kept ts us to_us c.args.out.now.items c.requires.before j
    ++ flat_map (routine_steps P) (procedures_taken P.algorithm (taker_at us c.in_ok-taker.taker) first (map (procedure_at us) c.deref.result.now) takers number procedures j)))
    ∙ append_assoc old (flat_map (routine_steps P) (taken_procedures P.algorithm)) (main_steps P P.algorithm.main))
    c.add_main.ensures.made
