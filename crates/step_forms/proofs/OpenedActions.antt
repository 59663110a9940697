-- What is written for the labels of routines with their macro calls written out is what is written for the routines as they are.
use Rattle.std.proofs.Common.{◌≡◌, List, [], ◌∷◌, ◌++◌, map, reverse, Option, Some, None, refl, ◌∙◌, ap}
use Rattle.std.specs.List.{flat_map}
use Rattle.tla_token.specs.declared.place.Place.{Place}
use Rattle.tla_tree.specs.Tree.{Word, Tree, Trees}
use Rattle.module_tree.specs.Formulas.{self}
use Rattle.module_tree.specs.Module.{test, item, one_way, all_of, some_of}
use Rattle.pcal_tree.specs.Algorithm.{nowhere, Span, assignment, no_binds, is, with, done, Start, unset, equals, among, Declaration, then, assign, Main, alone, processes, Routine, procedure_routines}
use Rattle.pcal_tree.specs.Calls.{label_name, first_label, routine_named}
use Rattle.pcal_tree.specs.Expand.{graft_all, written_out, expand_begin}
use Rattle.pcal_tree.specs.Program.{Program}
use Rattle.pcal_tree.specs.Run.{Partner, no_partner, goto_partner, return_partner, unlabelled}
use Rattle.pcal_tree.specs.StepStart.{Begin, at_label}
use Rattle.pcal_tree.specs.Takers.{Taken, taken_main}
use Rattle.pcal_tree.specs.Variables.{stack, written_all}
use Rattle.action_builder.specs.Jumps.{JumpPlaces, name_at, spot, jump_written, return_written, stack_pushed, arguments_assigned, variables_written, stack_replaced, others_restored, call_written, pair_written, call_with, call_to, written_jumps}
use Rattle.action_builder.specs.LabelActions.{parameter_of, call_by, items_by, no_jump_places, initial_tree, written_initials, items_from, title_of, label_action, label_actions, own_action, routine_actions, main_actions, taken_procedures, actions}
use Rattle.action_builder.specs.Prepared.{prepared, action_items}
use Rattle.action_builder.specs.Written.{old_stack}
use Rattle.action_builder.specs.WrittenNames.{renames}
use Rattle.step_forms.specs.Opened.{opened_program, opened_routine, opened_taken, IsOpenable}
use Rattle.step_forms.proofs.MacroCalls.{expanded_again}
use Rattle.step_forms.proofs.OpenedBodies.{words_opened, label_opened, begin_opened}
use Rattle.step_forms.proofs.OpenedRoutines.{opened_option, opened_main, procedures_opened, taken_main_opened, taken_procedures_opened, named_opened, vars_opened, is_own_opened, at_test_opened}

pub flat_mapped : {X Y Z : Type 0} (f : Y → List Z) (g : X → Y) (k : X → List Z) → ((x : X) → f (g x) ≡ k x) → (xs : List X) → flat_map f (map g xs) ≡ flat_map k xs
flat_mapped f g k e [] = refl
flat_mapped f g k e (x ∷ xs) = λ i. e x i ++ flat_mapped f g k e xs i

module _ (P : Program) (h : IsOpenable P.algorithm) where
  abbrev Q : Program
  Q = opened_program P

  abbrev O : Routine → Routine
  O u = opened_routine P.algorithm u

  pub first_opened : (u : Routine) → first_label (O u) ≡ first_label u
  first_opened u = label_opened P.algorithm h u.body u.exit

  -- ---- jumps

  abbrev started_by : Program → Routine → Declaration → Tree
  started_by R p d = initial_tree R p d.start

  initial_opened : (p : Routine) → started_by Q (O p) ≡ started_by P p
  initial_opened p = λ i d. by d.start i
    where
      by : (s : Start) → initial_tree Q (O p) s ≡ initial_tree P p s
      by unset = refl
      by (equals e) = refl
      by (among e) = refl

  call_opened : (p : Routine) (at : Place) (ts : Trees) (back : Word) (place : Declaration → Place) (initial : Declaration → Tree) → call_written Q (O p) at ts back place initial ≡ call_written P p at ts back place initial
  call_opened p at ts back place initial =
      ap (λ l. then (spot at) (assign (assignment (name_at at stack) (stack_pushed P p at back) (arguments_assigned (written_all P p p.params) ts)))
      (variables_written P p place initial p.variables (jump_written at (label_name P p l)))) (first_opened p)

  pair_opened : (u p : Routine) (at end : Place) (ts : Trees) (place : Declaration → Place) (initial : Declaration → Tree) → pair_written Q (O u) (O p) at end ts place initial ≡ pair_written P u p at end ts place initial
  pair_opened u p at end ts place initial =
      ap (λ l. then (spot end) (with (is (record { word = old_stack; place = end }) (name_at end stack) no_binds)
      (then (spot at) (assign (assignment (name_at at stack) (stack_replaced P u p at end) (arguments_assigned (written_all P p p.params) ts)))
      (variables_written P p place initial p.variables (then (spot end) (assign (others_restored P u p end)) (jump_written at (label_name P p l)))))) done) (first_opened p)

  with_opened : (u p : Routine) (places : JumpPlaces) (at : Span) (ts : Trees) (l : Word) (j : Partner)
      → call_with Q (O u) (written_initials Q) places at ts l j (O p) ≡ call_with P u (written_initials P) places at ts l j p
  with_opened u p places at ts l no_partner =
      call_opened p (places.call at) ts (label_name P u l) (λ d. nowhere) (started_by Q (O p)) ∙ ap (call_written P p (places.call at) ts (label_name P u l) (λ d. nowhere)) (initial_opened p)
  with_opened u p places at ts l (goto_partner m) =
      call_opened p (places.call at) ts (label_name P u m) (λ d. nowhere) (started_by Q (O p)) ∙ ap (call_written P p (places.call at) ts (label_name P u m) (λ d. nowhere)) (initial_opened p)
  with_opened u p places at ts l (return_partner end) =
      pair_opened u p (places.call at) (places.return end) ts (λ d. nowhere) (started_by Q (O p)) ∙ ap (pair_written P u p (places.call at) (places.return end) ts (λ d. nowhere)) (initial_opened p)

  to_opened : (u : Routine) (places : JumpPlaces) (at : Span) (x : Word) (ts : Trees) (l : Word) (j : Partner)
      → call_to Q (O u) (written_initials Q) places at ts l j (routine_named x (procedure_routines Q.algorithm)) ≡ call_to P u (written_initials P) places at ts l j (routine_named x (procedure_routines P.algorithm))
  to_opened u places at x ts l j =
      ap (λ us. call_to Q (O u) (written_initials Q) places at ts l j (routine_named x us)) (procedures_opened P.algorithm)
      ∙ ap (call_to Q (O u) (written_initials Q) places at ts l j) (named_opened P.algorithm x (procedure_routines P.algorithm))
      ∙ by (routine_named x (procedure_routines P.algorithm))
    where
      by : (o : Option Routine) → call_to Q (O u) (written_initials Q) places at ts l j (opened_option P.algorithm o) ≡ call_to P u (written_initials P) places at ts l j o
      by None = refl
      by (Some p) = with_opened u p places at ts l j

  pub jumps_opened : (u : Routine) (places : JumpPlaces) → written_jumps Q (O u) (written_initials Q) places ≡ written_jumps P u (written_initials P) places
  jumps_opened u places = λ i. record {
    goto = λ l. jump_written places.goto (label_name P u l);
    call = λ at p ts l j. to_opened u places at p.word ts l j i;
    return = λ at. return_written P u (places.return at);
  }

  -- ---- actions

  items_opened : (u : Routine) (l : Word) (o : Option Begin) → items_from Q (O u) l (expand_begin (written_out (reverse P.algorithm.macros)) o) ≡ items_from P u l o
  items_opened u l None = refl
  items_opened u l (Some b) = λ i.
      item (test (at_test_opened P u l i)) (action_items (vars_opened P i)
      (prepared (jumps_opened u no_jump_places i) self (is_own_opened P i) l b.exit (graft_all (renames P u) (expanded_again (reverse P.algorithm.macros) b.items i))))

  pub label_items_opened : (u : Routine) (l : Word) → items_from Q (O u) l (at_label (O u) l) ≡ items_from P u l (at_label u l)
  label_items_opened u l = ap (items_from Q (O u) l) (begin_opened P.algorithm h l unlabelled u.body u.exit) ∙ items_opened u l (at_label u l)

  pub label_action_opened : (t : Taken) (l : Word) → label_action Q (opened_taken P.algorithm t) l ≡ label_action P t l
  label_action_opened t l = λ i. record { title = label_name P t.routine l; parameter = parameter_of t.takers; body = all_of (items_by t.takers (label_items_opened t.routine l i)) }

  pub label_actions_opened : (t : Taken) → label_actions Q (opened_taken P.algorithm t) ≡ label_actions P t
  label_actions_opened t = λ i. map (λ l. label_action_opened t l i) (words_opened P.algorithm h t.routine.body i)

  pub own_action_opened : (t : Taken) → own_action Q (opened_taken P.algorithm t) ≡ own_action P t
  own_action_opened t = λ i. record {
    title = title_of P t;
    parameter = parameter_of t.takers;
    body = some_of (map (λ l. one_way (call_by t.takers (label_name P t.routine l))) (words_opened P.algorithm h t.routine.body i));
  }

  routine_actions_opened : (t : Taken) → routine_actions Q (opened_taken P.algorithm t) ≡ routine_actions P t
  routine_actions_opened t = λ i. label_actions_opened t i ++ own_action_opened t i ∷ []

  main_actions_opened : (m : Main) → main_actions Q (opened_main P.algorithm m) ≡ main_actions P m
  main_actions_opened (alone ss) =
      ap (flat_map (label_actions Q)) (taken_main_opened P.algorithm (alone ss)) ∙ flat_mapped (label_actions Q) (opened_taken P.algorithm) (label_actions P) label_actions_opened (taken_main P.algorithm (alone ss))
  main_actions_opened (processes ps) =
      ap (flat_map (routine_actions Q)) (taken_main_opened P.algorithm (processes ps)) ∙ flat_mapped (routine_actions Q) (opened_taken P.algorithm) (routine_actions P) routine_actions_opened (taken_main P.algorithm (processes ps))

  pub actions_opened : actions Q ≡ actions P
  actions_opened = λ i.
      (ap (flat_map (routine_actions Q)) (taken_procedures_opened P.algorithm)
      ∙ flat_mapped (routine_actions Q) (opened_taken P.algorithm) (routine_actions P) routine_actions_opened (taken_procedures P.algorithm)) i
      ++ main_actions_opened P.algorithm.main i
