-- The actions of labels are those of steps, where no macro is called.
use Rattle.std.proofs.Common.{◌≡◌, List, [], ◌∷◌, ◌++◌, map, reverse, Option, Some, refl, sym, ◌∙◌, ap, subst}
use Rattle.std.specs.List.{flat_map, AllByRecursion}
use Rattle.tla_tree.specs.Tree.{Word}
use Rattle.module_tree.specs.Formulas.{self}
use Rattle.module_tree.specs.Module.{test, item, all_of, Action}
use Rattle.pcal_tree.specs.Algorithm.{Main, alone, processes}
use Rattle.pcal_tree.specs.Calls.{label_name}
use Rattle.pcal_tree.specs.Expand.{graft_all, written_out}
use Rattle.pcal_tree.specs.OffencesLabels.{label_words}
use Rattle.pcal_tree.specs.Program.{Program}
use Rattle.pcal_tree.specs.Run.{unlabelled}
use Rattle.pcal_tree.specs.StepStart.{Begin}
use Rattle.pcal_tree.specs.Takers.{Taken, taken_main}
use Rattle.pcal_tree.specs.Variables.{vars}
use Rattle.pcal_tree.specs.laws.Expansion.{Calls}
use Rattle.action_builder.specs.Jumps.{written_jumps}
use Rattle.action_builder.specs.LabelActions.{parameter_of, items_by, no_jump_places, written_initials, at_test, items_from, label_actions, routine_actions, main_actions, taken_procedures, actions}
use Rattle.action_builder.specs.OwnVariables.{is_own_variable}
use Rattle.action_builder.specs.Prepared.{prepared, action_items}
use Rattle.action_builder.specs.WrittenNames.{renames}
use Rattle.action_builder.specs.laws.Jumps.{AllUnlike}
use Rattle.step_forms.specs.Opened.{opened_program, opened_taken, IsOpenable}
use Rattle.step_forms.specs.Steps.{Step, steps, step_action, step_actions, routine_steps, main_steps, actions_by_steps}
use Rattle.step_forms.proofs.LabelsApart.{LabelsApart, procedure_labels_apart, main_labels_apart}
use Rattle.step_forms.proofs.MacroCalls.{Never, never_expanded, stays, steps_free}
use Rattle.step_forms.proofs.OpenedActions.{label_actions_opened, own_action_opened}
use Rattle.step_forms.proofs.OpenedBodies.{words_opened}
use Rattle.step_forms.proofs.OpenedRoutines.{opened_main, taken_main_opened, taken_procedures_opened}
use Rattle.step_forms.proofs.StepsLaws.{steps_of_labels}
use Rattle.step_forms.proofs.Words.{every_to, same_mapped}

-- ---- a body without macro calls

module _ (P : Program) (t : Taken) where
  abbrev begun : Word → Option Begin → Action
  begun l o = record { title = label_name P t.routine l; parameter = parameter_of t.takers; body = all_of (items_by t.takers (items_from P t.routine l o)) }

  step_written : (s : Step) → Calls Never s.begins.items → begun s.label (Some s.begins) ≡ step_action P t s
  step_written s c = λ i. record {
    title = label_name P t.routine s.label;
    parameter = parameter_of t.takers;
    body = all_of (items_by t.takers (item (test (at_test P t.routine s.label)) (action_items (vars P)
        (prepared (written_jumps P t.routine (written_initials P) no_jump_places) self (is_own_variable P) s.label s.begins.exit
        (graft_all (renames P t.routine) (stays (written_out (reverse P.algorithm.macros)) s.begins.items c i))))));
  }

  pub steps_written : AllUnlike (label_words t.routine.body) → Calls Never t.routine.body → label_actions P t ≡ step_actions P t
  steps_written apart free =
      let all = steps unlabelled t.routine.body t.routine.exit in
      sym (steps_of_labels t.routine apart begun)
      ∙ same_mapped (λ (s : Step). begun s.label (Some s.begins)) (step_action P t) all
      (every_to (λ (s : Step). Calls Never s.begins.items) (λ (s : Step). begun s.label (Some s.begins) ≡ step_action P t s) step_written all (steps_free unlabelled t.routine.body t.routine.exit free))

-- ---- an algorithm with its macro calls written out

flat_mapped_each : {X Y Z : Type 0} (f : Y → List Z) (g : X → Y) (k : X → List Z) (xs : List X) → AllByRecursion (λ x. f (g x) ≡ k x) xs → flat_map f (map g xs) ≡ flat_map k xs
flat_mapped_each f g k [] e = refl
flat_mapped_each f g k (x ∷ xs) e = λ i. e.0 i ++ flat_mapped_each f g k xs e.1 i

module _ (P : Program) (h : IsOpenable P.algorithm) where
  abbrev Q : Program
  Q = opened_program P

  pub label_steps : (t : Taken) → AllUnlike (label_words t.routine.body) → label_actions P t ≡ step_actions Q (opened_taken P.algorithm t)
  label_steps t apart =
      sym (label_actions_opened P h t)
      ∙ steps_written Q (opened_taken P.algorithm t) (subst AllUnlike (sym (words_opened P.algorithm h t.routine.body)) apart) (never_expanded (reverse P.algorithm.macros) t.routine.body)

  routine_steps_opened : (t : Taken) → AllUnlike (label_words t.routine.body) → routine_steps Q (opened_taken P.algorithm t) ≡ routine_actions P t
  routine_steps_opened t apart = λ i. sym (label_steps t apart) i ++ own_action_opened P h t i ∷ []

  each_routine : (ts : List Taken) → LabelsApart ts → flat_map (routine_steps Q) (map (opened_taken P.algorithm) ts) ≡ flat_map (routine_actions P) ts
  each_routine ts apart = flat_mapped_each (routine_steps Q) (opened_taken P.algorithm) (routine_actions P) ts (every_to _ _ routine_steps_opened ts apart)

  main_steps_opened : (m : Main) → LabelsApart (taken_main P.algorithm m) → main_steps Q (opened_main P.algorithm m) ≡ main_actions P m
  main_steps_opened (alone ss) apart =
      ap (flat_map (step_actions Q)) (taken_main_opened P.algorithm (alone ss))
      ∙ flat_mapped_each (step_actions Q) (opened_taken P.algorithm) (label_actions P) (taken_main P.algorithm (alone ss))
      (every_to (λ (t : Taken). AllUnlike (label_words t.routine.body)) _ (λ t q. sym (label_steps t q)) (taken_main P.algorithm (alone ss)) apart)
  main_steps_opened (processes ps) apart = ap (flat_map (routine_steps Q)) (taken_main_opened P.algorithm (processes ps)) ∙ each_routine (taken_main P.algorithm (processes ps)) apart

  pub actions_are_steps : actions_by_steps Q ≡ actions P
  actions_are_steps = λ i.
      (ap (flat_map (routine_steps Q)) (taken_procedures_opened P.algorithm) ∙ each_routine (taken_procedures P.algorithm) (procedure_labels_apart P.algorithm h.labels)) i
      ++ main_steps_opened P.algorithm.main (main_labels_apart P.algorithm h.labels) i
