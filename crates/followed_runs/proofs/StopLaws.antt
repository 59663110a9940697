-- Why a run stops, from why a step or the start isn't taken.
use Rattle.std.proofs.Common.{◌≡◌, ℕ, Bool, true, false, [], sym, ap, ◌∙◌, refl, Option, Some, None, Err}
use Rattle.std.proofs.lemmas.Bool.{false≢true}
use Rattle.tla_value.specs.declared.stop.EvalStop.{EvalStop}
use Rattle.tla_value.specs.declared.stop.EvalStop.TheVariants as stop
use Rattle.tla_value.specs.Value.{Outcome, Trouble, fault, over}
use Rattle.pcal_tree.specs.Algorithm.{nowhere}
use Rattle.pcal_tree.specs.Scope.{State}
use Rattle.pcal_tree.specs.StepAnswers.{Reply, held_at, no_label, needs_choice, too_many_choices, stopped_by}
use Rattle.step_runner.specs.Followed.{Stop, Followed, after_reply}
use Rattle.step_runner.specs.Fronts.{Text}
use Rattle.value_forms.specs.Gives.{Stops}
use Rattle.step_meaning.specs.declared.halt.Halt.{Halt}
use Rattle.step_meaning.specs.declared.halt.Halt.TheVariants as halt
use Rattle.step_meaning.specs.Replies.{halted, HaltsBy}
use Rattle.followed_runs.specs.Stopping.{Adds}

-- it is where a run stops, whatever the reply is; so memory didn't run out
abbrev pub StopsAt : Halt → ℕ → Option Stop → Type 0
StopsAt h k o = (r : Reply State) → HaltsBy h r → o ≡ Some (record { step = k; reply = r })

abbrev is_no_label : Reply State → Bool
is_no_label no_label = true
is_no_label r = false

abbrev at_no_label : Option Stop → Bool
at_no_label None = false
at_no_label (Some s) = is_no_label s.reply

unlike : (k : ℕ) (o : Option Stop) → o ≡ Some (record { step = k; reply = no_label }) → o ≡ Some (record { step = k; reply = held_at nowhere }) → ⊥
unlike k o d e = false≢true (sym (ap at_no_label e) ∙ ap at_no_label d)

pub not_memory : (k : ℕ) (o : Option Stop) → StopsAt halt.Memory k o → ⊥
not_memory k o all = unlike k o (all no_label tt) (all (held_at nowhere) tt)

-- a step that isn't taken ends the run there
abbrev Ends : ℕ → Option Stop → Followed → Type 0
Ends k o f = f ≡ record { states = []; stop = o }

ends_by : (k : ℕ) (o : Option Stop) (r q : Reply State) → r ≡ q → o ≡ Some (record { step = k; reply = r }) → Ends k o (record { states = []; stop = Some (record { step = k; reply = q }) })
ends_by k o r q e all =
    ap (λ (z : Option Stop). record { states = []; stop = z }) (ap (λ (z : Reply State). Some (record { step = k; reply = z })) (sym e) ∙ sym all)

pub halted_after : (h : Halt) (k : ℕ) (go : State → Followed) (r : Reply State) (o : Option Stop) → HaltsBy h r → StopsAt h k o → after_reply k go r ≡ record { states = []; stop = o }
halted_after halt.Memory k go r o h all = absurd (not_memory k o all)
halted_after (halt.Fault f p) k go r o h all = ap (after_reply k go) h ∙ ends_by k o r (stopped_by (fault f p)) h (all r h)
halted_after (halt.Limit p) k go r o h all = ap (after_reply k go) h ∙ ends_by k o r (stopped_by (over p)) h (all r h)
halted_after (halt.Held p) k go r o h all = ap (after_reply k go) h ∙ ends_by k o r (held_at p) h (all r h)
halted_after halt.NoLabel k go r o h all = ap (after_reply k go) h ∙ ends_by k o r no_label h (all r h)
halted_after (halt.NeedsChoice n p) k go r o h all = ap (after_reply k go) h ∙ ends_by k o r (needs_choice n p) h (all r h)
halted_after (halt.TooManyChoices p) k go r o h all = ap (after_reply k go) h ∙ ends_by k o r (too_many_choices p) h (all r h)

pub unchanged : (h : Halt) (k : ℕ) (o : Option Stop) (shown : State → Text) (old new : Text) → StopsAt h k o → Adds shown old new (Err h) → new ≡ old
unchanged halt.Memory k o shown old new all a = absurd (not_memory k o all)
unchanged (halt.Fault f p) k o shown old new all a = a
unchanged (halt.Limit p) k o shown old new all a = a
unchanged (halt.Held p) k o shown old new all a = a
unchanged halt.NoLabel k o shown old new all a = a
unchanged (halt.NeedsChoice n p) k o shown old new all a = a
unchanged (halt.TooManyChoices p) k o shown old new all a = a

-- ---- where the processes can't be told

pub stopped_is : {X : Type 0} (s : EvalStop) (k : ℕ) (o : Option Stop) (p : Outcome X) (go : Outcome X → Followed)
    → ((t : Trouble) → go (Err t) ≡ record { states = []; stop = Some (record { step = k; reply = stopped_by t }) })
    → Stops s p → StopsAt (halted s) k o → go p ≡ record { states = []; stop = o }
stopped_is stop.Memory k o p go by h all = absurd (not_memory k o all)
stopped_is (stop.Fault f at) k o p go by h all =
    ap go h ∙ by (fault f at) ∙ ends_by k o (stopped_by (fault f at)) (stopped_by (fault f at)) refl (all (stopped_by (fault f at)) refl)
stopped_is (stop.Limit at) k o p go by h all = ap go h ∙ by (over at) ∙ ends_by k o (stopped_by (over at)) (stopped_by (over at)) refl (all (stopped_by (over at)) refl)
