-- The formulas of fairness of an algorithm with its macro calls written out are those of the algorithm as it is.
use Rattle.std.proofs.Common.{◌≡◌, ℕ, zero, suc, List, [], ◌∷◌, ◌++◌, map, length, Bool, true, false, cond, refl, sym, ◌∙◌, ap}
use Rattle.std.specs.List.{flat_map, filter}
use Rattle.std.proofs.lemmas.List.{map-append}
use Rattle.tla_token.specs.Signs.{is_among}
use Rattle.tla_tree.specs.Tree.{Word}
use Rattle.pcal_tree.specs.declared.mark.Fairness as declared
use Rattle.pcal_tree.specs.declared.mark.Fairness.TheVariants.{Unfair, Weak, Strong}
use Rattle.pcal_tree.specs.Algorithm.{Process, Main, alone, processes, Routine, numbered, first_process, procedure_routines, Algorithm}
use Rattle.pcal_tree.specs.Program.{Program}
use Rattle.pcal_tree.specs.Takers.{Taken, taken_process}
use Rattle.fairness.specs.Demands.{Demand, all_steps, routine_steps, label_steps, demands_in, demands_of, main_demands, demands}
use Rattle.fairness.specs.FairnessLines.{over_of, guard_of, action_call, line_of, fairness_lines}
use Rattle.fairness.specs.MarkedLabels.{strong_labels}
use Rattle.fairness.specs.Obligations.{written_labels}
use Rattle.fairness.specs.ReachedProcedures.{called_by, reached_within, reached}
use Rattle.step_forms.specs.Opened.{opened, opened_program, opened_routine, opened_taken, IsOpenable}
use Rattle.step_forms.proofs.OpenedFormulas.{mapped}
use Rattle.step_forms.proofs.OpenedRoutines.{length_mapped, opened_process, opened_main, first_process_opened, procedures_opened}
use Rattle.region_forms.proofs.OpenedMarks.{calls_alike, left_out_alike, strong_alike}

-- f of what is opened is what f is, opened
flat_opened : {X Y Z W : Type 0} (f : Y → List W) (g : X → Y) (k : X → List Z) (o : Z → W) → ((x : X) → f (g x) ≡ map o (k x)) → (xs : List X) → flat_map f (map g xs) ≡ map o (flat_map k xs)
flat_opened f g k o e [] = refl
flat_opened f g k o e (x ∷ xs) = (λ i. e x i ++ flat_opened f g k o e xs i) ∙ sym (map-append o (k x) (flat_map k xs))

module _ (a : Algorithm) (h : IsOpenable a) where
  abbrev O : Routine → Routine
  O u = opened_routine a u

  abbrev T : Taken → Taken
  T t = opened_taken a t

  -- ---- procedures that are reached

  called_opened : (us : List Routine) → called_by (map O us) ≡ called_by us
  called_opened [] = refl
  called_opened (u ∷ us) = λ i. calls_alike a h u.body i ++ called_opened us i

  named_opened : (xs : List Word) (us : List Routine) → filter (λ (p : Routine). is_among xs p.name.word) (map O us) ≡ map O (filter (λ (p : Routine). is_among xs p.name.word) us)
  named_opened xs [] = refl
  named_opened xs (u ∷ us) = by (is_among xs u.name.word) (named_opened xs us)
    where
      by : (b : Bool) → filter (λ (p : Routine). is_among xs p.name.word) (map O us) ≡ map O (filter (λ (p : Routine). is_among xs p.name.word) us)
          → cond b (O u ∷ filter (λ (p : Routine). is_among xs p.name.word) (map O us)) (filter (λ (p : Routine). is_among xs p.name.word) (map O us))
          ≡ map O (cond b (u ∷ filter (λ (p : Routine). is_among xs p.name.word) us) (filter (λ (p : Routine). is_among xs p.name.word) us))
      by true e = ap (λ vs. O u ∷ vs) e
      by false e = e

  within_opened : (n : ℕ) (u : Routine) → reached_within n (opened a) (O u) ≡ map O (reached_within n a u)
  within_opened zero u = refl
  within_opened (suc n) u =
      (λ i. filter (λ (p : Routine). is_among (called_by (O u ∷ within_opened n u i)) p.name.word) (procedures_opened a i))
      ∙ (λ i. filter (λ (p : Routine). is_among (called_opened (u ∷ reached_within n a u) i) p.name.word) (map O (procedure_routines a)))
      ∙ named_opened (called_by (u ∷ reached_within n a u)) (procedure_routines a)

  reached_opened : (u : Routine) → reached (opened a) (O u) ≡ map O (reached a u)
  reached_opened u = ap (λ n. reached_within n (opened a) (O u)) (length_mapped _ a.procedures) ∙ within_opened (length a.procedures) u

  -- ---- demands

  abbrev opened_demand : Demand → Demand
  opened_demand all_steps = all_steps
  opened_demand (routine_steps t strong u) = routine_steps (T t) strong (O u)
  opened_demand (label_steps t u l) = label_steps (T t) (O u) l

  demands_in_opened : (t : Taken) (strong : Bool) (u : Routine) → demands_in (T t) strong (O u) ≡ map opened_demand (demands_in t strong u)
  demands_in_opened t true u = refl
  demands_in_opened t false u =
      ap (λ ds. routine_steps (T t) false (O u) ∷ ds)
      (ap (map (label_steps (T t) (O u))) (strong_alike a h u.body) ∙ sym (mapped opened_demand (label_steps t u) (label_steps (T t) (O u)) (λ l. refl) (strong_labels u.body)))

  demands_each : (t : Taken) (strong : Bool)
      → flat_map (demands_in (T t) strong) (O t.routine ∷ reached (opened a) (O t.routine)) ≡ map opened_demand (flat_map (demands_in t strong) (t.routine ∷ reached a t.routine))
  demands_each t strong =
      ap (λ us. flat_map (demands_in (T t) strong) (O t.routine ∷ us)) (reached_opened t.routine)
      ∙ flat_opened (demands_in (T t) strong) O (demands_in t strong) opened_demand (demands_in_opened t strong) (t.routine ∷ reached a t.routine)

  demands_of_opened : (f : declared.Fairness) (t : Taken) → demands_of (opened a) f (T t) ≡ map opened_demand (demands_of a f t)
  demands_of_opened Unfair t = refl
  demands_of_opened Weak t = demands_each t false
  demands_of_opened Strong t = demands_each t true

  processes_opened : (n : ℕ) (ps : List Process)
      → flat_map (λ ds. ds) (numbered (λ n p. demands_of (opened a) p.fairness (taken_process n p)) n (map (opened_process a) ps))
      ≡ map opened_demand (flat_map (λ ds. ds) (numbered (λ n p. demands_of a p.fairness (taken_process n p)) n ps))
  processes_opened n [] = refl
  processes_opened n (p ∷ ps) =
      (λ i. demands_of_opened p.fairness (taken_process n p) i ++ processes_opened (suc n) ps i)
      ∙ sym (map-append opened_demand (demands_of a p.fairness (taken_process n p)) (flat_map (λ ds. ds) (numbered (λ n p. demands_of a p.fairness (taken_process n p)) (suc n) ps)))

  main_demands_opened : (m : Main) → main_demands (opened a) (opened_main a m) ≡ map opened_demand (main_demands a m)
  main_demands_opened (alone ss) = refl
  main_demands_opened (processes ps) =
      ap (λ n. flat_map (λ ds. ds) (numbered (λ n p. demands_of (opened a) p.fairness (taken_process n p)) n (map (opened_process a) ps))) (first_process_opened a)
      ∙ processes_opened (first_process a) ps

  demands_opened : demands (opened a) ≡ map opened_demand (demands a)
  demands_opened = by a.fair (main_demands_opened a.main)
    where
      by : (b : Bool) → main_demands (opened a) (opened_main a a.main) ≡ map opened_demand (main_demands a a.main)
          → cond b (all_steps ∷ []) [] ++ main_demands (opened a) (opened_main a a.main) ≡ map opened_demand (cond b (all_steps ∷ []) [] ++ main_demands a a.main)
      by true e = ap (λ ds. all_steps ∷ ds) e
      by false e = e

-- ---- lines

module _ (P : Program) (h : IsOpenable P.algorithm) where
  line_opened : (d : Demand) → line_of (opened_program P) (opened_demand P.algorithm h d) ≡ line_of P d
  line_opened all_steps = refl
  line_opened (routine_steps t strong u) = λ i. record {
    over = over_of t.takers;
    strong = strong;
    guard = guard_of t.takers (written_labels P u (left_out_alike P.algorithm h u.body i));
    action = action_call t u (P.naming.title u.number);
  }
  line_opened (label_steps t u l) = refl

  pub lines_opened : fairness_lines (opened_program P) ≡ fairness_lines P
  lines_opened =
      ap (map (line_of (opened_program P))) (demands_opened P.algorithm h)
      ∙ mapped (line_of (opened_program P)) (opened_demand P.algorithm h) (line_of P) line_opened (demands P.algorithm)
