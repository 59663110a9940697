-- What comes of a part, and then of what follows: where the part goes through, and where it pauses.
use Rattle.std.proofs.Common.{◌≡◌, ℕ, List, Ok, Err, Result, refl, sym, ap, subst, ◌∙◌}
use Rattle.std.specs.Prelude.{OnOk, IfOk}
use Rattle.std.specs.Result.{IsErr, IsErrAnd}
use Rattle.tla_value.specs.declared.stop.EvalStop.{EvalStop}
use Rattle.tla_value.specs.declared.stop.EvalStop.TheVariants as stop
use Rattle.tla_value.specs.Value.{Outcome}
use Rattle.value_forms.specs.Gives.{Stops}
use Rattle.step_walks.specs.Flows.{Flow, falls, halts, onward, flowing}
use Rattle.step_choices.specs.declared.pause.Pause.{Pause}
use Rattle.step_choices.specs.declared.pause.Pause.TheVariants as pause
use Rattle.step_choices.specs.Pauses.{pause_of, Pauses, Flows}

-- ---- onward

pub onward_again : {X Y Z : Type 0} (f : Flow X) (go : X → List ℕ → Flow Y) (on : Y → List ℕ → Flow Z) → onward (onward f go) on ≡ onward f (λ x ms. onward (go x ms) on)
onward_again (falls x ns) go on = refl
onward_again (halts w) go on = refl

-- a part that goes through to t
pub through : {X Y : Type 0} (f : Flow X) (x : X) (ns : List ℕ) (go : X → List ℕ → Flow Y) → f ≡ falls x ns → onward f go ≡ go x ns
through f x ns go e = ap (λ g. onward g go) e

-- a part whose value is made into t
pub through_made : {X Y Z : Type 0} (f : Flow X) (made : X → Y) (t : Y) (ns : List ℕ) (go : Y → List ℕ → Flow Z) → onward f (λ x ms. falls (made x) ms) ≡ falls t ns → onward f (λ x ms. go (made x) ms) ≡ go t ns
through_made f made t ns go e = sym (onward_again f (λ x ms. falls (made x) ms) go) ∙ ap (λ g. onward g go) e

pub outcome_through : {X Y : Type 0} (o : Outcome X) (x : X) (go : X → Flow Y) → o ≡ Ok x → flowing o go ≡ go x
outcome_through o x go e = ap (λ p. flowing p go) e

-- ---- pauses

pub pauses_onward : {X Y : Type 0} (p : Pause) (f : Flow X) (go : X → List ℕ → Flow Y) → Pauses p f → Pauses p (onward f go)
pauses_onward pause.Memory f go h = tt
pauses_onward (pause.Fault k q) f go h = ap (λ g. onward g go) h
pauses_onward (pause.Limit q) f go h = ap (λ g. onward g go) h
pauses_onward (pause.Held q) f go h = ap (λ g. onward g go) h
pauses_onward (pause.Wants n q) f go h = ap (λ g. onward g go) h

pub pauses_made : {X Y Z : Type 0} (p : Pause) (f : Flow X) (made : X → Y) (go : Y → List ℕ → Flow Z) → Pauses p (onward f (λ x ms. falls (made x) ms)) → Pauses p (onward f (λ x ms. go (made x) ms))
pauses_made p f made go h = subst (Pauses p) (onward_again f (λ x ms. falls (made x) ms) go) (pauses_onward p (onward f (λ x ms. falls (made x) ms)) go h)

pub pauses_flowing : {X Y : Type 0} (s : EvalStop) (o : Outcome X) (go : X → Flow Y) → Stops s o → Pauses (pause_of s) (flowing o go)
pauses_flowing stop.Memory o go h = tt
pauses_flowing (stop.Fault k q) o go h = ap (λ p. flowing p go) h
pauses_flowing (stop.Limit q) o go h = ap (λ p. flowing p go) h

pub pauses_is : {X : Type 0} (p : Pause) (f g : Flow X) → f ≡ g → Pauses p f → Pauses p g
pauses_is p f g e h = subst (Pauses p) e h

-- ---- answers

pub on_ok : {X E P Q : Type 0} (r : Result X E) → (P → Q) → OnOk r P → OnOk r Q
on_ok (Ok x) f h = f h
on_ok (Err e) f h = tt

pub if_ok : {X E : Type 0} {P Q : X → Type 0} (r : Result X E) → ((x : X) → P x → Q x) → IfOk r P → IfOk r Q
if_ok (Ok x) f h = f x h
if_ok (Err e) f h = tt

-- a `?` passes the pause on
pub paused : {X Y : Type 0} (view : X → Y) (r : Result X Pause) (p : Pause) (ns : List ℕ) (f : Flow Y) → IsErr r × IsErrAnd r (λ e. e ≡ p) → Pauses p f → Flows view r ns f
paused view (Ok x) p ns f h k = cc
paused view (Err e) p ns f h k = subst (λ q. Pauses q f) (sym h.1) k

pub flows_is : {X Y : Type 0} (view : X → Y) (r : Result X Pause) (ns : List ℕ) (f g : Flow Y) → f ≡ g → Flows view r ns f → Flows view r ns g
flows_is view r ns f g e h = subst (Flows view r ns) e h

pub flows_through : {X Y Z : Type 0} (view : X → Y) (r : Result X Pause) (ns ms : List ℕ) (f : Flow Z) (z : Z) (go : Z → List ℕ → Flow Y) → f ≡ falls z ms → Flows view r ns (go z ms) → Flows view r ns (onward f go)
flows_through view r ns ms f z go e h = flows_is view r ns (go z ms) (onward f go) (sym (through f z ms go e)) h

pub flows_outcome : {X Y Z : Type 0} (view : X → Y) (r : Result X Pause) (ns : List ℕ) (o : Outcome Z) (z : Z) (go : Z → Flow Y) → o ≡ Ok z → Flows view r ns (go z) → Flows view r ns (flowing o go)
flows_outcome view r ns o z go e h = flows_is view r ns (go z) (flowing o go) (sym (outcome_through o z go e)) h
