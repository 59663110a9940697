-- Each formula of fairness is of its obligation, process by process.
use Rattle.std.proofs.Common.{◌≡◌, ◌⊎◌, inl, inr, ℕ, zero, suc, ◌+◌, ◌<◌, ◌≤◌, List, [], ◌∷◌, length, filter, Bool, true, false, cond, map, Some, None, refl, sym, ◌∙◌, ap, subst, arith}
use Rattle.std.specs.Prelude.{flat_map}
use Rattle.std.specs.List.{AllByRecursion}
use Rattle.std.proofs.lemmas.Bool.{eq-eqb, ne_eqb}
use Rattle.tla_tree.specs.Tree.{Word}
use Rattle.module_tree.specs.Module.{call, call_with}
use Rattle.module_tree.specs.Formulas.{self, named}
use Rattle.pcal_tree.specs.declared.mark.Fairness.{Fairness as Wanted}
use Rattle.pcal_tree.specs.declared.mark.Fairness.TheVariants.{Unfair, Weak, Strong}
use Rattle.pcal_tree.specs.Algorithm.{Procedure, Process, Main, alone, processes, Algorithm, Routine, procedure_routine, numbered, first_procedure, first_process, procedure_routines}
use Rattle.pcal_tree.specs.Takers.{each_of, single, Taken, taken_process, taken_main}
use Rattle.pcal_tree.specs.Processes.{OneOf}
use Rattle.pcal_tree.specs.OffencesLabels.{label_words}
use Rattle.pcal_tree.specs.Program.{Program}
use Rattle.pcal_tree.specs.Calls.{label_name}
use Rattle.pcal_tree.proofs.OneStand.{every_both}
use Rattle.fairness.specs.MarkedLabels.{left_out_labels, strong_labels}
use Rattle.fairness.specs.ReachedProcedures.{reached_within, reached}
use Rattle.fairness.specs.Demands.{Demand, all_steps, routine_steps, label_steps, demands_in, demands_of, main_demands, demands}
use Rattle.fairness.specs.Obligations.{obligation_of, written_labels, obligations}
use Rattle.action_builder.specs.LabelActions.{call_by}
use Rattle.fairness.specs.FairnessLines.{identifier_of, over_of, action_call, guard_of, line_of, fairness_lines}
use Rattle.fairness.specs.laws.LinesOfObligations.{identifier, quantified, own_action, IsCallBy, LeavesOut, IsOf, AreOf}
use Rattle.fairness.proofs.LabelsShared.{labels_shared, strong_is_label, one_shared}
use Rattle.fairness.proofs.TestsOfLabels.{guard_leaves_out}

-- ---- what is reached has another number

pub numbered_below : (n : ℕ) (ps : List Procedure) (u : Routine) → OneOf u (numbered procedure_routine n ps) → u.number < n + length ps
numbered_below n [] u h = absurd h
numbered_below n (p ∷ ps) u (inl e) = subst (λ k. k < n + suc (length ps)) (sym (ap (λ v. v.number) e)) (omega arith)
numbered_below n (p ∷ ps) u (inr h) = let b = numbered_below (suc n) ps u h in omega arith

filtered : {X : Type 0} (f : X → Bool) (x : X) (xs : List X) → OneOf x (filter f xs) → OneOf x xs
filtered f x [] h = h
filtered f x (y ∷ ys) h = by (f y) (filtered f x ys) h
  where
    by : (b : Bool) → (OneOf x (filter f ys) → OneOf x ys) → OneOf x (cond b (y ∷ filter f ys) (filter f ys)) → OneOf x (y ∷ ys)
    by true ih (inl e) = inl e
    by true ih (inr k) = inr (ih k)
    by false ih k = inr (ih k)

pub reached_some : (n : ℕ) (a : Algorithm) (u v : Routine) → OneOf v (reached_within n a u) → OneOf v (procedure_routines a)
reached_some zero a u v h = absurd h
reached_some (suc n) a u v h = filtered _ v (procedure_routines a) h

reached_below : (a : Algorithm) (u v : Routine) → OneOf v (reached a u) → v.number < first_process a
reached_below a u v h = numbered_below (first_procedure a) a.procedures v (reached_some (length a.procedures) a u v h)

-- ---- one process

over_is : (p : Process) → over_of (taken_process 0 p).takers ≡ quantified p
over_is p = by p.several
  where
    by : (b : Bool) → over_of (cond b (each_of p.identity) (single p.identity)) ≡ cond b (Some (self, p.identity)) None
    by true = refl
    by false = refl

identifier_is : (p : Process) → identifier_of (taken_process 0 p).takers ≡ identifier p
identifier_is p = by p.several
  where
    by : (b : Bool) → identifier_of (cond b (each_of p.identity) (single p.identity)) ≡ cond b (named self) p.identity
    by true = refl
    by false = refl

own_is : (p : Process) (c : Word) → call_by (taken_process 0 p).takers c ≡ own_action p c
own_is p c = by p.several
  where
    by : (b : Bool) → call_by (cond b (each_of p.identity) (single p.identity)) c ≡ cond b (call_with c (named self)) (call c)
    by true = refl
    by false = refl

module _ (P : Program) (n : ℕ) (p : Process) (behind : first_process P.algorithm ≤ n) (there : OneOf (taken_process n p) (taken_main P.algorithm P.algorithm.main)) where
  abbrev t : Taken
  t = taken_process n p

  abbrev Right : Demand → Type 0
  Right d = IsOf P (obligation_of P d) (line_of P d)

  -- its own body, or a procedure that it reaches
  abbrev Its : Routine → Type 0
  Its u = (u ≡ t.routine) ⊎ OneOf u (reached P.algorithm t.routine)

  its_call : (u : Routine) → Its u → (c : Word) → IsCallBy P n p u c (action_call t u c)
  its_call u (inl e) c =
      inl (e, ap (λ b. cond b (call_by t.takers c) (call_with c (identifier_of t.takers))) (eq-eqb n u.number (sym (ap (λ v. v.number) e))) ∙ own_is p c)
  its_call u (inr h) c =
      inr (h, ap (λ b. cond b (call_by t.takers c) (call_with c (identifier_of t.takers))) (ne_eqb n u.number (λ e. apart e)) ∙ ap (call_with c) (identifier_is p))
    where
      apart : n ≡ u.number → ⊥
      apart e = let b = reached_below P.algorithm t.routine u h in omega (arith, e, b, behind)

  steps_right : (u : Routine) → Its u → (strong : Bool) → Right (routine_steps t strong u)
  steps_right u h strong = (
    refl,
    inr (record {
      number = n;
      process = p;
      there = there;
      its = refl;
      over = over_is p;
      routine = u;
      title = P.naming.title u.number;
      action = its_call u h (P.naming.title u.number);
      all = written_labels P u (label_words u.body);
      steps = inl (refl, refl);
      left_out = written_labels P u (left_out_labels u.body);
      shared = labels_shared (label_name P u) u.body;
      test = subst (λ who. LeavesOut who (written_labels P u (left_out_labels u.body)) (guard_of t.takers (written_labels P u (left_out_labels u.body)))) (identifier_is p) (guard_leaves_out t.takers (written_labels P u (left_out_labels u.body)));
    }),
  )

  label_right : (u : Routine) → Its u → (l : Word) → OneOf l (strong_labels u.body) → Right (label_steps t u l)
  label_right u h l k = (
    refl,
    inr (record {
      number = n;
      process = p;
      there = there;
      its = refl;
      over = over_is p;
      routine = u;
      title = label_name P u l;
      action = its_call u h (label_name P u l);
      all = label_name P u l ∷ [];
      steps = inr (l, strong_is_label l u.body k, refl, refl);
      left_out = [];
      shared = one_shared (label_name P u l);
      test = λ env m e. refl;
    }),
  )

  labels_right : (u : Routine) → Its u → (ls : List Word) → ((l : Word) → OneOf l ls → OneOf l (strong_labels u.body)) → AllByRecursion Right (map (label_steps t u) ls)
  labels_right u h [] k = tt
  labels_right u h (l ∷ ls) k = (label_right u h l (k l (inl refl)), labels_right u h ls (λ m q. k m (inr q)))

  routine_right : (strong : Bool) (u : Routine) → Its u → AllByRecursion Right (demands_in t strong u)
  routine_right strong u h = (steps_right u h strong, by strong)
    where
      by : (b : Bool) → AllByRecursion Right (cond b [] (map (label_steps t u) (strong_labels u.body)))
      by true = tt
      by false = labels_right u h (strong_labels u.body) (λ l q. q)

  routines_right : (strong : Bool) (us : List Routine) → ((u : Routine) → OneOf u us → Its u) → AllByRecursion Right (flat_map (demands_in t strong) us)
  routines_right strong [] h = tt
  routines_right strong (u ∷ us) h = every_both Right (demands_in t strong u) (flat_map (demands_in t strong) us) (routine_right strong u (h u (inl refl))) (routines_right strong us (λ v k. h v (inr k)))

  process_right : (f : Wanted) → AllByRecursion Right (demands_of P.algorithm f t)
  process_right Unfair = tt
  process_right Weak = routines_right false (t.routine ∷ reached P.algorithm t.routine) (λ u h. h)
  process_right Strong = routines_right true (t.routine ∷ reached P.algorithm t.routine) (λ u h. h)

-- ---- all of them

module _ (P : Program) where
  abbrev IsRight : Demand → Type 0
  IsRight d = IsOf P (obligation_of P d) (line_of P d)

  processes_right : (n : ℕ) (ps : List Process) → first_process P.algorithm ≤ n → ((t : Taken) → OneOf t (numbered taken_process n ps) → OneOf t (taken_main P.algorithm P.algorithm.main))
      → AllByRecursion IsRight (flat_map (λ ds. ds) (numbered (λ n p. demands_of P.algorithm p.fairness (taken_process n p)) n ps))
  processes_right n [] behind there = tt
  processes_right n (p ∷ ps) behind there =
      every_both IsRight (demands_of P.algorithm p.fairness (taken_process n p)) _
      (process_right P n p behind (there (taken_process n p) (inl refl)) p.fairness)
      (processes_right (suc n) ps (omega arith) (λ t h. there t (inr h)))

  main_right : (m : Main) → P.algorithm.main ≡ m → AllByRecursion IsRight (main_demands P.algorithm m)
  main_right (alone b) e = tt
  main_right (processes ps) e = processes_right (first_process P.algorithm) ps (omega arith) (λ t h. subst (λ m. OneOf t (taken_main P.algorithm m)) (sym e) h)

  top_right : (b : Bool) → AllByRecursion IsRight (cond b (all_steps ∷ []) [])
  top_right true = ((refl, inl (refl, refl, refl, refl, refl)), tt)
  top_right false = tt

  in_order : (ds : List Demand) → AllByRecursion IsRight ds → AreOf P (map (obligation_of P) ds) (map (line_of P) ds)
  in_order [] h = tt
  in_order (d ∷ ds) h = (h.0, in_order ds h.1)

  pub lines_of_obligations : AreOf P (obligations P) (fairness_lines P)
  lines_of_obligations = in_order (demands P.algorithm) (every_both IsRight _ _ (top_right P.algorithm.fair) (main_right P.algorithm.main refl))
