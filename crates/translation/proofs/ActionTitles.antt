-- The actions of the written module have the written names of labels, procedures and processes, in their order.
use Rattle.std.proofs.Common.{◌≡◌, ℕ, suc, List, [], ◌∷◌, ◌++◌, map, false, ◌||◌, cond, bytes_eq, codes, refl, ap, ◌∙◌}
use Rattle.std.specs.List.{flat_map}
use Rattle.std.proofs.lemmas.List.{map-append}
use Rattle.tla_tree.specs.Tree.{Word}
use Rattle.tla_value.specs.Outside.{Outside}
use Rattle.module_tree.specs.Module.{Action}
use Rattle.pcal_tree.specs.Algorithm.{Statements, Procedure, Process, Main, alone, processes, Algorithm, Routine, Naming, procedure_routine, process_routine, alone_routine, numbered, first_process, first_procedure}
use Rattle.pcal_tree.specs.Placeless.{name_placeless, tree_placeless, statements_placeless, declarations_placeless, procedures_placeless, processes_placeless, main_placeless, placeless}
use Rattle.pcal_tree.specs.OffencesLabels.{label_words}
use Rattle.pcal_tree.specs.Program.{Program}
use Rattle.pcal_tree.specs.Calls.{label_name}
use Rattle.pcal_tree.specs.Takers.{Takers, lone, Taken, taken_process}
use Rattle.action_builder.specs.WrittenNames.{with_names}
use Rattle.action_builder.specs.LabelActions.{procedure_takers, label_action, label_actions, own_action, routine_actions, main_actions, actions}
use Rattle.translation.specs.laws.ActionNames.{routine_names, main_names, action_names}
use Rattle.translation.proofs.NoPlaces.{all_labels, naming_bare, as_many_macros, first_process_bare}

abbrev titles : List Action → List Word
titles xs = map (λ (a : Action). a.title) xs

pub titles_joined : (xs ys : List Action) → titles (xs ++ ys) ≡ titles xs ++ titles ys
titles_joined xs ys = map-append (λ (a : Action). a.title) xs ys

pub label_titles : (P : Program) (t : Taken) (ls : List Word) → titles (map (label_action P t) ls) ≡ map (label_name P t.routine) ls
label_titles P t [] = refl
label_titles P t (l ∷ ls) = λ i. label_name P t.routine l ∷ label_titles P t ls i

routine_titles : (P : Program) (t : Taken) → titles (routine_actions P t) ≡ routine_names P t.routine
routine_titles P t = titles_joined (label_actions P t) (own_action P t ∷ []) ∙ (λ i. label_titles P t (label_words t.routine.body) i ++ P.naming.title t.routine.number ∷ [])

-- ---- without places

abbrev labels_by : Naming → ℕ → List Word → List Word
labels_by names n ls = map (λ l. cond (bytes_eq (codes "Done") l || bytes_eq (codes "Error") l) l (names.label n l)) ls

abbrev names_by : Naming → ℕ → List Word → List Word
names_by names n ls = labels_by names n ls ++ names.title n ∷ []

module _ (o : Outside) (g : Algorithm) where
  abbrev bare : Program
  bare = with_names o (placeless g)

  abbrev full : Program
  full = with_names o g

  abbrev taken_by : Takers → Routine → Taken
  taken_by k u = record { takers = k; routine = u }

  abbrev bare_procedure : ℕ → Procedure → Routine
  bare_procedure n p = procedure_routine n (record { name = name_placeless p.name; params = declarations_placeless p.params; variables = declarations_placeless p.variables; body = statements_placeless p.body })

  abbrev bare_process : ℕ → Process → Taken
  bare_process n p = taken_process n (record { name = name_placeless p.name; fairness = p.fairness; several = p.several; identity = tree_placeless p.identity; variables = declarations_placeless p.variables; body = statements_placeless p.body })

  -- the actions of the procedures, of which the first has this number
  abbrev procedure_actions : Takers → ℕ → List Procedure → List Action
  procedure_actions k n ps = flat_map (routine_actions bare) (map (taken_by k) (numbered procedure_routine n (procedures_placeless ps)))

  abbrev process_actions : ℕ → List Process → List Action
  process_actions n ps = flat_map (routine_actions bare) (numbered taken_process n (processes_placeless ps))

  procedure_titles : (k : Takers) (n : ℕ) (ps : List Procedure) → titles (procedure_actions k n ps) ≡ flat_map (routine_names full) (numbered procedure_routine n ps)
  procedure_titles k n [] = refl
  procedure_titles k n (p ∷ ps) =
      titles_joined (routine_actions bare (taken_by k (bare_procedure n p))) (procedure_actions k (suc n) ps)
      ∙ (λ i. routine_titles bare (taken_by k (bare_procedure n p)) i ++ procedure_titles k (suc n) ps i)
      ∙ (λ i. names_by (naming_bare o g i) n (all_labels false p.body i) ++ flat_map (routine_names full) (numbered procedure_routine (suc n) ps))

  process_titles : (n : ℕ) (ps : List Process) → titles (process_actions n ps) ≡ flat_map (routine_names full) (numbered process_routine n ps)
  process_titles n [] = refl
  process_titles n (p ∷ ps) =
      titles_joined (routine_actions bare (bare_process n p)) (process_actions (suc n) ps)
      ∙ (λ i. routine_titles bare (bare_process n p) i ++ process_titles (suc n) ps i)
      ∙ (λ i. names_by (naming_bare o g i) n (all_labels false p.body i) ++ flat_map (routine_names full) (numbered process_routine (suc n) ps))

  abbrev bare_body : Statements → Taken
  bare_body ss = record { takers = lone; routine = alone_routine (placeless g) (statements_placeless ss) }

  main_titles : (m : Main) → titles (main_actions bare (main_placeless m)) ≡ main_names full m
  main_titles (alone ss) =
      titles_joined (label_actions bare (bare_body ss)) [] ∙ (λ i. label_titles bare (bare_body ss) (label_words (statements_placeless ss)) i ++ [])
      ∙ (λ i. labels_by (naming_bare o g i) (first_process_bare g i) (all_labels false ss i) ++ [])
  main_titles (processes ps) =
      ap (λ (n : ℕ). titles (process_actions n ps)) (first_process_bare g) ∙ process_titles (first_process g) ps

  pub action_titles : titles (actions bare) ≡ action_names full
  action_titles =
      let k = procedure_takers (main_placeless g.main) in
      let all = ap (λ (n : ℕ). titles (procedure_actions k n g.procedures)) (as_many_macros g.macros) ∙ procedure_titles k (first_procedure g) g.procedures in
      titles_joined (procedure_actions k (first_procedure (placeless g)) g.procedures) (main_actions bare (main_placeless g.main)) ∙ (λ i. all i ++ main_titles g.main i)
