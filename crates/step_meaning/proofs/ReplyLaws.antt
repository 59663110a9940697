-- What is replied of a step, by what it comes to.
use Rattle.std.proofs.Common.{◌≡◌, ℕ, ◌<◌, ◌≤◌, List, [], ◌∷◌, length, Result, Ok, Err, refl, sym, ap, subst, ◌∙◌, arith}
use Rattle.std.specs.Result.{IsErr, IsErrAnd}
use Rattle.tla_token.specs.declared.place.Place.{Place}
use Rattle.tla_value.specs.declared.stop.EvalStop.{EvalStop}
use Rattle.tla_value.specs.declared.stop.EvalStop.TheVariants as stop
use Rattle.tla_value.specs.Value.{Outcome}
use Rattle.pcal_tree.specs.Choices.{Walk, went, failed, blocked, wanting}
use Rattle.pcal_tree.specs.Scope.{State}
use Rattle.pcal_tree.specs.StepAnswers.{Reply, reached, held_at, no_label, needs_choice, too_many_choices, stopped_by, replied}
use Rattle.value_forms.specs.Gives.{Stops}
use Rattle.step_choices.specs.declared.pause.Pause.{Pause}
use Rattle.step_choices.specs.declared.pause.Pause.TheVariants as pause
use Rattle.step_meaning.specs.declared.halt.Halt.{Halt}
use Rattle.step_meaning.specs.declared.halt.Halt.TheVariants as halt
use Rattle.step_meaning.specs.Replies.{halted, halt_of, HaltsBy, Replies}
use Rattle.step_meaning.specs.Walks.{PausesWalk}

pub pause_replies : {X : Type 0} (f : State → X) (at : Place) (p : Pause) (w : Walk) → PausesWalk p w → HaltsBy (halt_of p) (replied f at w)
pause_replies f at pause.Memory w h = tt
pause_replies f at (pause.Fault k p) w h = ap (replied f at) h
pause_replies f at (pause.Limit p) w h = ap (replied f at) h
pause_replies f at (pause.Held p) w h = ap (replied f at) h
pause_replies f at (pause.Wants n p) w h = ap (replied f at) h

-- a `?` passes it on
pub err_replies : {X Y : Type 0} (view : X → Y) (r : Result X Halt) (h : Halt) (q : Reply Y) → IsErr r × IsErrAnd r (λ e. e ≡ h) → HaltsBy h q → Replies view r q
err_replies view (Ok x) h q e k = cc
err_replies view (Err g) h q e k = subst (λ t. HaltsBy t q) (sym e.1) k

-- ---- choices that are left over

replied_by : {X : Type 0} (f : State → X) (at : Place) (t : State) (ns : List ℕ) → 0 < length ns → replied f at (went t ns) ≡ too_many_choices at
replied_by f at t [] h = absurd (let no : ⊥ = omega (arith, h) in no)
replied_by f at t (n ∷ ns) h = refl

pub left_over : {X : Type 0} (f : State → X) (at : Place) (t : State) (ns : List ℕ) (w : Walk) → w ≡ went t ns → 0 < length ns → replied f at w ≡ too_many_choices at
left_over f at t ns w is h = ap (replied f at) is ∙ replied_by f at t ns h

nothing_left : (ns : List ℕ) → length ns ≤ 0 → ns ≡ []
nothing_left [] h = refl
nothing_left (n ∷ ns) h = absurd (let no : ⊥ = omega (arith, h) in no)

pub all_used : {X : Type 0} (f : State → X) (at : Place) (t : State) (ns : List ℕ) (w : Walk) → w ≡ went t ns → length ns ≤ 0 → replied f at w ≡ reached (f t)
all_used f at t ns w is h = ap (replied f at) is ∙ ap (λ (l : List ℕ). replied f at (went t l)) (nothing_left ns h)

-- ---- with more than the state

abbrev with : {X Y : Type 0} → (X → Y) → Reply X → Reply Y
with f (reached x) = reached (f x)
with f (held_at p) = held_at p
with f no_label = no_label
with f (needs_choice n p) = needs_choice n p
with f (too_many_choices p) = too_many_choices p
with f (stopped_by k) = stopped_by k

with_left : {X : Type 0} (f : State → X) (at : Place) (t : State) (ns : List ℕ) → replied f at (went t ns) ≡ with f (replied (λ s. s) at (went t ns))
with_left f at t [] = refl
with_left f at t (n ∷ ns) = refl

with_more : {X : Type 0} (f : State → X) (at : Place) (w : Walk) → replied f at w ≡ with f (replied (λ s. s) at w)
with_more f at (went t ns) = with_left f at t ns
with_more f at (failed k) = refl
with_more f at (blocked p) = refl
with_more f at (wanting n p) = refl

pub reached_more : {X : Type 0} (f : State → X) (at : Place) (w : Walk) (t : State) → replied (λ s. s) at w ≡ reached t → replied f at w ≡ reached (f t)
reached_more f at w t h = with_more f at w ∙ ap (with f) h

pub halts_more : {X : Type 0} (f : State → X) (at : Place) (w : Walk) (h : Halt) → HaltsBy h (replied (λ s. s) at w) → HaltsBy h (replied f at w)
halts_more f at w halt.Memory k = tt
halts_more f at w (halt.Fault i p) k = with_more f at w ∙ ap (with f) k
halts_more f at w (halt.Limit p) k = with_more f at w ∙ ap (with f) k
halts_more f at w (halt.Held p) k = with_more f at w ∙ ap (with f) k
halts_more f at w halt.NoLabel k = with_more f at w ∙ ap (with f) k
halts_more f at w (halt.NeedsChoice n p) k = with_more f at w ∙ ap (with f) k
halts_more f at w (halt.TooManyChoices p) k = with_more f at w ∙ ap (with f) k

-- ---- where pc can't be read

pub stop_replies : {X Y : Type 0} (s : EvalStop) (o : Outcome Y) (go : Outcome Y → Reply X) → ((k : _) → go (Err k) ≡ stopped_by k) → Stops s o → HaltsBy (halted s) (go o)
stop_replies stop.Memory o go is h = tt
stop_replies (stop.Fault k p) o go is h = ap go h ∙ is _
stop_replies (stop.Limit p) o go is h = ap go h ∙ is _
