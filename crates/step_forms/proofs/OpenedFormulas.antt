-- Init, Next and the other formulas of an algorithm with its macro calls written out are those of the algorithm as it is.
use Rattle.std.proofs.Common.{◌≡◌, List, [], ◌∷◌, ◌++◌, map, Bool, false, cond, codes, Some, None, refl, sym, ◌∙◌, ap}
use Rattle.std.specs.List.{flat_map, list_any}
use Rattle.std.proofs.lemmas.List.{map-append}
use Rattle.tla_token.specs.Places.{nowhere}
use Rattle.tla_tree.specs.Tree.{Word, Tree, node, cases, graft}
use Rattle.tla_tree.specs.TreeOf.{trees_from}
use Rattle.module_tree.specs.Formulas.{self, named, quoted, equal}
use Rattle.module_tree.specs.Module.{call, one_way}
use Rattle.pcal_tree.specs.Algorithm.{Start, Declaration, Process, Main, alone, processes, Routine, locals, procedure_routines, main_routines, routines, Algorithm}
use Rattle.pcal_tree.specs.Calls.{label_name}
use Rattle.pcal_tree.specs.Program.{Program, written}
use Rattle.pcal_tree.specs.Takers.{Takers, each_of, single, lone, takers_of, Taken, taken_main}
use Rattle.pcal_tree.specs.Variables.{pc}
use Rattle.action_builder.specs.InitialFormulas.{plain_start, spread_start, written_in, start_by, locals_start, globals_start, for_all_processes, stack_start, is_taker, first_pc, arms, pc_value, pc_start, init}
use Rattle.action_builder.specs.LabelActions.{call_by, taken_procedures}
use Rattle.action_builder.specs.ModelValues.{is_unset, model_values}
use Rattle.action_builder.specs.NextFormula.{all_done, ended, way_by, own_way, label_ways, main_ways, next}
use Rattle.action_builder.specs.ProcessSets.{set_of_takers, sets_of_processes, union, process_set_of}
use Rattle.action_builder.specs.SingleProcess.{in_place_of}
use Rattle.action_builder.specs.WrittenNames.{renamed}
use Rattle.pcal_tree.specs.Expressions.{all_declarations}
use Rattle.step_forms.specs.Opened.{opened, opened_program, opened_routine, opened_taken, IsOpenable}
use Rattle.step_forms.proofs.OpenedActions.{flat_mapped, first_opened}
use Rattle.step_forms.proofs.OpenedBodies.{words_opened}
use Rattle.step_forms.proofs.OpenedRoutines.{opened_process, opened_main, procedures_opened, mains_opened, taken_main_opened, taken_procedures_opened, localised_opened}

pub mapped : {X Y Z : Type 0} (f : Y → Z) (g : X → Y) (k : X → Z) → ((x : X) → f (g x) ≡ k x) → (xs : List X) → map f (map g xs) ≡ map k xs
mapped f g k e [] = refl
mapped f g k e (x ∷ xs) = λ i. e x i ∷ mapped f g k e xs i

-- ---- of the one body or the processes

module _ (a : Algorithm) where
  pub done_opened : (m : Main) → all_done (opened_main a m) ≡ all_done m
  done_opened (alone ss) = refl
  done_opened (processes ps) = refl

  pub ended_opened : (b : Bool) (m : Main) → ended b (opened_main a m) ≡ ended b m
  ended_opened b m = ap (λ e. cond b None (Some e)) (done_opened m)

  pub process_set_opened : (m : Main) → process_set_of (opened_main a m) ≡ process_set_of m
  process_set_opened (alone ss) = refl
  process_set_opened (processes ps) = ap (λ es. Some (union es)) (sets ps)
    where
      sets : (ps : List Process) → sets_of_processes (map (opened_process a) ps) ≡ sets_of_processes ps
      sets [] = refl
      sets (p ∷ ps) = ap (λ es. set_of_takers (takers_of p) ∷ es) (sets ps)

  for_all_opened : (m : Main) (e : Tree) → for_all_processes (opened_main a m) e ≡ for_all_processes m e
  for_all_opened (alone ss) e = refl
  for_all_opened (processes ps) e = refl

  stack_start_opened : (m : Main) (us : List Routine) → stack_start (opened_main a m) (map (opened_routine a) us) ≡ stack_start m us
  stack_start_opened (alone ss) [] = refl
  stack_start_opened (alone ss) (u ∷ us) = refl
  stack_start_opened (processes ps) [] = refl
  stack_start_opened (processes ps) (u ∷ us) = refl

  locals_mapped : (us : List Routine) → flat_map locals (map (opened_routine a) us) ≡ flat_map locals us
  locals_mapped us = flat_mapped locals (opened_routine a) locals (λ u. refl) us

  routines_opened : routines (opened a) ≡ map (opened_routine a) (routines a)
  routines_opened = (λ i. procedures_opened a i ++ mains_opened a a.main i) ∙ sym (map-append (opened_routine a) (procedure_routines a) (main_routines a a.main))

  declarations_opened : all_declarations (opened a) ≡ all_declarations a
  declarations_opened = ap (λ ds. a.globals ++ ds) (ap (flat_map locals) routines_opened ∙ locals_mapped (routines a))

  pub model_values_opened : model_values (opened a) ≡ model_values a
  model_values_opened = ap (λ (ds : List Declaration). cond (list_any (λ d. is_unset d.start) ds) (codes "defaultInitValue" ∷ []) []) declarations_opened

-- ---- Init

module _ (P : Program) (h : IsOpenable P.algorithm) where
  abbrev Q : Program
  Q = opened_program P

  abbrev O : Routine → Routine
  O u = opened_routine P.algorithm u

  written_in_opened : (u : Routine) → written_in Q (O u) ≡ written_in P u
  written_in_opened u = λ i e. localised_opened P (renamed P u e) i

  start_opened : (u : Routine) (t : Takers) (x : Word) (s : Start) → start_by Q (O u) t x s ≡ start_by P u t x s
  start_opened u (each_of e) x s = ap (λ f. spread_start f e x s) (written_in_opened u)
  start_opened u (single e) x s = ap (λ (f : Tree → Tree). plain_start (λ t. graft (in_place_of self e) (f t)) x s) (written_in_opened u)
  start_opened u lone x s = ap (λ f. plain_start f x s) (written_in_opened u)

  locals_opened : (t : Taken) → locals_start Q (opened_taken P.algorithm t) ≡ locals_start P t
  locals_opened t = λ i. map (λ (d : Declaration). start_opened t.routine t.takers (written P t.routine d.name.word) d.start i) (locals t.routine)

  first_pc_opened : (t : Taken) → first_pc Q (opened_taken P.algorithm t) ≡ first_pc P t
  first_pc_opened t = ap (λ l. quoted (label_name P t.routine l)) (first_opened P h t.routine)

  arms_opened : (ts : List Taken) → arms Q (map (opened_taken P.algorithm) ts) ≡ arms P ts
  arms_opened ts = flat_mapped (λ (t : Taken). is_taker t.takers ∷ first_pc Q t ∷ []) (opened_taken P.algorithm) (λ (t : Taken). is_taker t.takers ∷ first_pc P t ∷ []) (λ t. λ i. is_taker t.takers ∷ first_pc_opened t i ∷ []) ts

  pc_value_opened : (ts : List Taken) → pc_value Q (map (opened_taken P.algorithm) ts) ≡ pc_value P ts
  pc_value_opened [] = refl
  pc_value_opened (t ∷ []) = first_pc_opened t
  pc_value_opened (t ∷ u ∷ ts) = ap (λ es. node (cases false) nowhere (trees_from es)) (arms_opened (t ∷ u ∷ ts))

  pc_opened : pc_start Q ≡ pc_start P
  pc_opened =
      (λ i. equal (named pc) (for_all_processes (opened_main P.algorithm P.algorithm.main) (pc_value Q (taken_main_opened P.algorithm P.algorithm.main i))))
      ∙ (λ i. equal (named pc) (for_all_processes (opened_main P.algorithm P.algorithm.main) (pc_value_opened (taken_main P.algorithm P.algorithm.main) i)))
      ∙ ap (equal (named pc)) (for_all_opened P.algorithm P.algorithm.main (pc_value P (taken_main P.algorithm P.algorithm.main)))

  starts_opened : (ts : List Taken) → flat_map (locals_start Q) (map (opened_taken P.algorithm) ts) ≡ flat_map (locals_start P) ts
  starts_opened ts = flat_mapped (locals_start Q) (opened_taken P.algorithm) (locals_start P) locals_opened ts

  pub init_opened : init Q ≡ init P
  init_opened = λ i.
      globals_start P.algorithm.globals
      ++ ((ap (flat_map (locals_start Q)) (taken_procedures_opened P.algorithm) ∙ starts_opened (taken_procedures P.algorithm)) i
      ++ ((ap (flat_map (locals_start Q)) (taken_main_opened P.algorithm P.algorithm.main) ∙ starts_opened (taken_main P.algorithm P.algorithm.main)) i
      ++ ((ap (stack_start (opened_main P.algorithm P.algorithm.main)) (procedures_opened P.algorithm) ∙ stack_start_opened P.algorithm P.algorithm.main (procedure_routines P.algorithm)) i ++ pc_opened i ∷ [])))

  -- ---- Next

  own_way_opened : (t : Taken) → own_way Q (opened_taken P.algorithm t) ≡ own_way P t
  own_way_opened t = by t.takers
    where
      by : (s : Takers) → way_by Q (opened_taken P.algorithm t) s ≡ way_by P t s
      by (each_of e) = refl
      by (single e) = refl
      by lone = refl

  label_ways_opened : (t : Taken) → label_ways Q (opened_taken P.algorithm t) ≡ label_ways P t
  label_ways_opened t = ap (map (λ l. one_way (call_by t.takers (label_name P t.routine l)))) (words_opened P.algorithm h t.routine.body)

  main_ways_opened : (m : Main) → main_ways Q (opened_main P.algorithm m) ≡ main_ways P m
  main_ways_opened (alone ss) =
      ap (flat_map (label_ways Q)) (taken_main_opened P.algorithm (alone ss)) ∙ flat_mapped (label_ways Q) (opened_taken P.algorithm) (label_ways P) label_ways_opened (taken_main P.algorithm (alone ss))
  main_ways_opened (processes ps) =
      ap (map (own_way Q)) (taken_main_opened P.algorithm (processes ps)) ∙ mapped (own_way Q) (opened_taken P.algorithm) (own_way P) own_way_opened (taken_main P.algorithm (processes ps))

  pub next_opened : (b : Bool) → next b Q ≡ next b P
  next_opened b = λ i.
      (ap (map (own_way Q)) (taken_procedures_opened P.algorithm) ∙ mapped (own_way Q) (opened_taken P.algorithm) (own_way P) own_way_opened (taken_procedures P.algorithm)) i
      ++ (main_ways_opened P.algorithm.main i ++ cond b [] (one_way (call (codes "Terminating")) ∷ []))
