-- With UNCHANGED for what a step assigns nowhere, its items are true exactly of the states that it steps to.
use Rattle.std.proofs.Common.{◌≡◌, List, [], Bool, true, false, ◌↔◌, refl, sym, ◌∙◌, ap, subst, ⊎_elim, Ok, Err}
use Rattle.std.proofs.lemmas.Bool.{cases_Bool, both_ways}
use Rattle.tla_token.specs.Signs.{is_among}
use Rattle.tla_tree.specs.Tree.{Word}
use Rattle.tla_value.specs.Stops.{plain}
use Rattle.tla_value.specs.Meaning.{Env}
use Rattle.module_tree.specs.ActionTruth.{Verdict, items_hold}
use Rattle.pcal_tree.specs.Scope.{State}
use Rattle.action_builder.specs.Assigned.{assigned_in}
use Rattle.action_builder.proofs.Effects.{effects_of}
use Rattle.action_builder.proofs.Actions.{minus, all_same}
use Rattle.tla_value.specs.Value.{and_then, IsBad, NotFalse, TrueExactly}
use Rattle.action_builder.specs.laws.Ready.{Readable, values_of, holds_on, unlimited}
use Rattle.action_builder.proofs.Matching.{Matches}
use Rattle.action_builder.specs.laws.LabelSteps.{LabelStep, prepared_of, items_of, action_of, IsPrepared, IsReady, HasOutcome, EndsIn, StepsTo, MeetsTrouble}
use Rattle.action_builder.specs.Written.{left_of, unchanged_of}
use Rattle.action_builder.specs.Prepared.{none}
use Rattle.action_builder.proofs.Sets.{minus_same, same_minus}
use Rattle.action_builder.proofs.Frame.{frame}
use Rattle.action_builder.proofs.Names.{all_names, all_in}
use Rattle.action_builder.proofs.Contract.{runs_law}
use Rattle.action_builder.proofs.Truth.{hold_onto, match_unchanged}
use Rattle.action_builder.proofs.Items.{match_is}
use Rattle.action_builder.proofs.Steps.{close_step, step_exactly, step_fits, fits_step, step_stops}

abbrev names_of : LabelStep → List Word
names_of d = assigned_in (prepared_of d)

-- a step changes nothing else
kept : (d : LabelStep) → IsPrepared d → (U : Readable) (vs : List Word) (env : State → State → Env) → IsReady U vs env none d → (s u : State) → HasOutcome none d s s (Ok u) → (x : Word) → is_among (names_of d) x ≡ false → u x ≡ s x
kept d p U vs env r s u o x m =
    let c = close_step none d p s s in
    frame (effects_of plain (prepared_of d)) d.scope s u x ((runs_law (unlimited d.rules) (is_among vs) none (prepared_of d) d.scope s s (Ok u) r.settled (λ y m at w. ([], r.stands.scoped.part y m at w))).0 ((c.ends u).1 o)) (ap (λ xs. is_among xs x) (all_names plain (prepared_of d)) ∙ m)

and_got : (c : Bool) → and_then (Ok c) (Ok true) ≡ Ok c
and_got true = refl
and_got false = refl

-- the action is that of the items, and then UNCHANGED
whole : (U : Readable) (vs : List Word) (env : State → State → Env) (d : LabelStep) (s t : State) → holds_on vs env (action_of vs d) s t ≡ and_then (holds_on vs env (items_of vs none d) s t) (Ok (all_same (minus vs (names_of d)) s t))
whole U vs env d s t =
    hold_onto (values_of vs s) (values_of vs t) (env s t) (items_of vs none d) (unchanged_of (left_of vs vs (names_of d)))
    ∙ ap (and_then (holds_on vs env (items_of vs none d) s t)) (match_is _ (all_same (minus vs (names_of d)) s t) (subst (Matches (items_hold plain (values_of vs s) (values_of vs t) (env s t) (unchanged_of (left_of vs vs (names_of d))))) (and_got (all_same (minus vs (names_of d)) s t)) (match_unchanged vs vs (names_of d) s t (env s t) (λ x m. m))))

there : (d : LabelStep) → IsPrepared d → (U : Readable) (vs : List Word) (env : State → State → Env) → IsReady U vs env none d → (s t : State) → EndsIn none d s t → all_same (minus vs (names_of d)) s t ≡ true → StepsTo vs d s t
there d p U vs env r s t e q = (e.0, e.1, λ x m. ⊎_elim (λ a. e.2 x a) (λ a. kept d p U vs env r s e.0 e.1 x a ∙ sym (minus_same vs (names_of d) s t q x m a)) (cases_Bool (is_among (names_of d) x)))

ends : (d : LabelStep) (U : Readable) (vs : List Word) (env : State → State → Env) → IsReady U vs env none d → (s t : State) → StepsTo vs d s t → EndsIn none d s t
ends d U vs env r s t e = (e.0, e.1, λ x m. e.2 x (all_in (is_among vs) (prepared_of d) r.settled x m))

unchanged_there : (d : LabelStep) → IsPrepared d → (U : Readable) (vs : List Word) (env : State → State → Env) → IsReady U vs env none d → (s t : State) → StepsTo vs d s t → all_same (minus vs (names_of d)) s t ≡ true
unchanged_there d p U vs env r s t e = same_minus vs (names_of d) s t (λ x m a. sym (e.2 x m) ∙ kept d p U vs env r s e.0 e.1 x a)

-- no outcome is trouble: the action is true exactly if the step leads there, else false
pub action_exactly : (d : LabelStep) → IsPrepared d → (U : Readable) (vs : List Word) (env : State → State → Env) → IsReady U vs env none d → (s t : State) → (MeetsTrouble d s → ⊥) → TrueExactly (holds_on vs env (action_of vs d) s t) (StepsTo vs d s t)
action_exactly d p U vs env r s t fine =
    by (step_exactly d p U vs env none r s t fine) (all_same (minus vs (names_of d)) s t) refl
  where
    by : TrueExactly (holds_on vs env (items_of vs none d) s t) (EndsIn none d s t) → (c : Bool) → all_same (minus vs (names_of d)) s t ≡ c → TrueExactly (holds_on vs env (action_of vs d) s t) (StepsTo vs d s t)
    by (true, e, k) c q = (c, whole U vs env d s t ∙ (λ i. and_then (e i) (Ok (q i))), (λ h. there d p U vs env r s t (k.0 refl) (q ∙ h), λ h. sym q ∙ unchanged_there d p U vs env r s t h))
    by (false, e, k) c q = (false, whole U vs env d s t ∙ (λ i. and_then (e i) (Ok (q i))), (λ h. absurd (both_ways false refl h), λ h. k.1 (ends d U vs env r s t h)))

both_true : (v : Verdict) (c : Bool) → and_then v (Ok c) ≡ Ok true → (v ≡ Ok true) × (c ≡ true)
both_true (Ok true) true e = (refl, refl)
both_true (Ok true) false e = cc
both_true (Ok false) c e = cc
both_true (Err k) c e = cc

not_false : (v : Verdict) (c : Bool) → NotFalse v → c ≡ true → NotFalse (and_then v (Ok c))
not_false (Ok true) c h e = subst (λ b. NotFalse (Ok b)) (sym e) tt
not_false (Ok false) c h e = h
not_false (Err k) c h e = tt

stopped_first : (v : Verdict) (c : Bool) → IsBad (and_then v (Ok c)) ↔ IsBad v
stopped_first (Ok true) c = (λ h. h, λ h. absurd h)
stopped_first (Ok false) c = (λ h. h, λ h. h)
stopped_first (Err k) c = (λ h. h, λ h. h)

-- where the action is true, the step leads there
pub action_leads : (d : LabelStep) → IsPrepared d → (U : Readable) (vs : List Word) (env : State → State → Env) → IsReady U vs env none d → (s t : State) → holds_on vs env (action_of vs d) s t ≡ Ok true → StepsTo vs d s t
action_leads d p U vs env r s t e =
    let q = both_true (holds_on vs env (items_of vs none d) s t) (all_same (minus vs (names_of d)) s t) (sym (whole U vs env d s t) ∙ e) in
    there d p U vs env r s t (step_fits d p U vs env none r s t q.0) q.1

-- where the step leads there, the action is true or faults
pub leads_action : (d : LabelStep) → IsPrepared d → (U : Readable) (vs : List Word) (env : State → State → Env) → IsReady U vs env none d → (s t : State) → StepsTo vs d s t → NotFalse (holds_on vs env (action_of vs d) s t)
leads_action d p U vs env r s t e =
    subst NotFalse (sym (whole U vs env d s t)) (not_false (holds_on vs env (items_of vs none d) s t) (all_same (minus vs (names_of d)) s t)
    (fits_step d p U vs env none r s t (ends d U vs env r s t e)) (unchanged_there d p U vs env r s t e))

-- the action faults for some second state exactly if the step meets trouble
pub action_stops : (d : LabelStep) → IsPrepared d → (U : Readable) (vs : List Word) (env : State → State → Env) → IsReady U vs env none d → (s : State) → ((u : State) × IsBad (holds_on vs env (action_of vs d) s u)) ↔ MeetsTrouble d s
action_stops d p U vs env r s = (
  λ x. (step_stops d p U vs env none r s x.0).0
      (x.0, λ y h. refl, (stopped_first (holds_on vs env (items_of vs none d) s x.0) (all_same (minus vs (names_of d)) s x.0)).0 (subst IsBad (whole U vs env d s x.0) x.1)),
  λ y. let x = (step_stops d p U vs env none r s s).1 y in
      (x.0, subst IsBad (sym (whole U vs env d s x.0)) ((stopped_first (holds_on vs env (items_of vs none d) s x.0) (all_same (minus vs (names_of d)) s x.0)).1 x.2)),
)
