-- An or over the routines of an algorithm, who takes them and their labels says that some process steps.
use Rattle.std.proofs.Common.{◌≡◌, ℕ, suc, List, [], ◌∷◌, Bool, true, false, cond, ◌==◌, ◌⊎◌, inl, inr, refl, sym, ap, ◌∙◌, subst, Ok}
use Rattle.std.proofs.lemmas.Bool.{eq-eqb}
use Rattle.tla_value.proofs.Outcomes.{ok_is}
use Rattle.pcal_tree.specs.Algorithm.{Process, Main, alone, processes, Algorithm, Routine, process_routine, numbered, first_process, procedure_routines, main_routines}
use Rattle.pcal_tree.specs.InitialStates.{running}
use Rattle.pcal_tree.specs.OffencesLabels.{label_words}
use Rattle.pcal_tree.specs.Processes.{OneOf, actors, IsActor}
use Rattle.pcal_tree.specs.Program.{Program, Actor}
use Rattle.pcal_tree.specs.Scope.{State}
use Rattle.pcal_tree.specs.Step.{Stand, routines_of, StepFrom, Step}
use Rattle.pcal_tree.specs.Takers.{Taken, taken_process, taken_main}
use Rattle.pcal_tree.proofs.OneStand.{own_is_main}
use Rattle.pcal_tree.proofs.TroubleLaws.{label_listed}
use Rattle.action_builder.specs.LabelActions.{procedure_takers}
use Rattle.action_builder.proofs.WaysOfNext.{AnyOf}
use Rattle.translation.proofs.NextFound.{one_mapped}
use Rattle.translation.proofs.NextTrue.{any_one, one_any, procedures_taken, takers_among, FromLabel, FromRoutine, FromTaken, FromMain}

pub running_one : (u : Routine) (v : Actor) (vs : List Actor) → OneOf v (running u vs) → OneOf v vs
running_one u v [] h = h
running_one u v (w ∷ vs) h = by (running_one u v vs) (w.own.number == u.number) h
  where
    by : (OneOf v (running u vs) → OneOf v vs) → (b : Bool) → OneOf v (cond b (w ∷ running u vs) (running u vs)) → OneOf v (w ∷ vs)
    by f true (inl e) = inl e
    by f true (inr k) = inr (f k)
    by f false k = inr (f k)

pub one_running : (u : Routine) (v : Actor) (vs : List Actor) → v.own ≡ u → OneOf v vs → OneOf v (running u vs)
one_running u v [] e h = h
one_running u v (w ∷ vs) e (inl q) =
    subst (λ b. OneOf v (cond b (w ∷ running u vs) (running u vs))) (sym (eq-eqb w.own.number u.number (ap (λ (z : Actor). z.own.number) (sym q) ∙ ap (λ (z : Routine). z.number) e))) (inl q)
one_running u v (w ∷ vs) e (inr k) = by (one_running u v vs e k) (w.own.number == u.number)
  where
    by : OneOf v (running u vs) → (b : Bool) → OneOf v (cond b (w ∷ running u vs) (running u vs))
    by f true = inr f
    by f false = f

taken_numbered : (u : Routine) (n : ℕ) (ps : List Process) → OneOf u (numbered process_routine n ps) → (r : Taken) × OneOf r (numbered taken_process n ps) × (r.routine ≡ u)
taken_numbered u n [] h = absurd h
taken_numbered u n (p ∷ ps) (inl e) = (taken_process n p, inl refl, sym e)
taken_numbered u n (p ∷ ps) (inr k) = (let h = taken_numbered u (suc n) ps k in (h.0, inr h.1, h.2))

-- each routine of the main part is taken
pub main_taken : (a : Algorithm) (m : Main) (u : Routine) → OneOf u (main_routines a m) → (r : Taken) × OneOf r (taken_main a m) × (r.routine ≡ u)
main_taken a (alone ss) u (inl e) = (_, inl refl, sym e)
main_taken a (alone ss) u (inr k) = absurd k
main_taken a (processes ps) u k = taken_numbered u (first_process a) ps k

module _ (P : Program) (s t : State) (vs : List Actor) (m : Main) (is : P.algorithm.main ≡ m) (all : actors P ≡ Ok vs) where
  among_all : (r : Taken) (v : Actor) → OneOf v (takers_among vs m r) → OneOf v vs
  among_all r v = by m
    where
      by : (n : Main) → OneOf v (takers_among vs n r) → OneOf v vs
      by (alone ss) h = h
      by (processes ps) h = running_one r.routine v vs h

  all_among : (r : Taken) (v : Actor) → v.own ≡ r.routine → OneOf v vs → OneOf v (takers_among vs m r)
  all_among r v e h = by m
    where
      by : (n : Main) → OneOf v (takers_among vs n r)
      by (alone ss) = h
      by (processes ps) = one_running r.routine v vs e h

  step_of_label : (v : Actor) → OneOf v vs → (r : Taken) → FromRoutine P s t v r.routine → Step P s t
  step_of_label v k r h =
      let (l, one, (b, at, f)) = any_one (FromLabel P s t v r.routine) (label_words r.routine.body) h in
      (v, record { routine = r.routine; label = l; begins = b }, (vs, all, k), f)

  from_any : (vss : Taken → List Actor) → ((r : Taken) (v : Actor) → OneOf v (vss r) → OneOf v vs) → (rs : List Taken) → AnyOf (λ r. FromTaken P s t r (vss r)) rs → Step P s t
  from_any vss f rs h =
      let (r, one, k) = any_one (λ r. FromTaken P s t r (vss r)) rs h in
      let (v, among, l) = any_one (λ v. FromRoutine P s t v r.routine) (vss r) k in
      step_of_label v (f r v among) r l

  pub steps_of_ways : AnyOf (λ r. FromTaken P s t r vs) (procedures_taken P m) ⊎ FromMain P s t vs m → Step P s t
  steps_of_ways (inl h) = from_any (λ r. vs) (λ r v k. k) (procedures_taken P m) h
  steps_of_ways (inr h) = from_any (λ r. takers_among vs m r) among_all (taken_main P.algorithm m) h

  -- the other way about
  one_of_all : (v : Actor) → IsActor P v → OneOf v vs
  one_of_all v k = subst (OneOf v) (ok_is (sym k.1 ∙ all)) k.2

  label_of_step : (v : Actor) (d : Stand) → StepFrom P v d s t → FromRoutine P s t v d.routine
  label_of_step v d h = one_any (FromLabel P s t v d.routine) d.label (label_words d.routine.body) (label_listed d.routine d.label d.begins h.0.1) (d.begins, h.0.1, h)

  pub ways_of_steps : Step P s t → AnyOf (λ r. FromTaken P s t r vs) (procedures_taken P m) ⊎ FromMain P s t vs m
  ways_of_steps (v, d, k, h) = by h.0.0
    where
      one : OneOf v vs
      one = one_of_all v k

      by : OneOf d.routine (routines_of P v) → AnyOf (λ r. FromTaken P s t r vs) (procedures_taken P m) ⊎ FromMain P s t vs m
      by (inl e) =
          let (r, taken, q) = main_taken P.algorithm m v.own (subst (λ n. OneOf v.own (main_routines P.algorithm n)) is (own_is_main P v k)) in
          inr (one_any (λ r. FromTaken P s t r (takers_among vs m r)) r (taken_main P.algorithm m) taken
          (one_any (λ w. FromRoutine P s t w r.routine) v (takers_among vs m r) (all_among r v (sym q) one) (subst (FromRoutine P s t v) (e ∙ sym q) (label_of_step v d h))))
      by (inr p) =
          inl (one_any (λ r. FromTaken P s t r vs) (record { takers = procedure_takers m; routine = d.routine }) (procedures_taken P m) (one_mapped (λ u. record { takers = procedure_takers m; routine = u }) d.routine (procedure_routines P.algorithm) p)
          (one_any (λ w. FromRoutine P s t w d.routine) v vs one (label_of_step v d h)))
