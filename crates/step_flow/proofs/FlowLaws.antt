-- What comes of a part of a step, where the code passes a pause on.
use Rattle.std.proofs.Common.{◌≡◌, ℕ, List, drop, Result, Ok, Err, ap, subst, sym, ◌∙◌}
use Rattle.std.specs.Result.{IsErr, IsErrAnd}
use Rattle.tla_value.specs.declared.stop.EvalStop.{EvalStop}
use Rattle.tla_value.specs.declared.stop.EvalStop.TheVariants.{Memory, Fault, Limit}
use Rattle.tla_value.specs.Value.{Outcome}
use Rattle.pcal_tree.specs.Choices.{went}
use Rattle.pcal_tree.specs.Scope.{State}
use Rattle.value_forms.specs.Gives.{Stops}
use Rattle.step_walks.specs.Flows.{Flow, falls, halts, onward, flowing}
use Rattle.step_moves.specs.StatesOf.{state_of}
use Rattle.step_choices.specs.declared.pause.Pause.{Pause}
use Rattle.step_choices.specs.declared.pause.Pause.TheVariants as pause
use Rattle.step_choices.specs.Pauses.{pause_of, Pauses}
use Rattle.step_flow.specs.declared.going.End.{End}
use Rattle.step_flow.specs.declared.going.End.TheVariants as end
use Rattle.step_flow.specs.declared.going.Going.{Going}
use Rattle.step_flow.specs.Ends.{Ends}

pub flowing_pauses : {X Y : Type 0} (s : EvalStop) (o : Outcome X) (go : X → Flow Y) → Stops s o → Pauses (pause_of s) (flowing o go)
flowing_pauses Memory o go h = tt
flowing_pauses (Fault k p) o go h = ap (λ q. flowing q go) h
flowing_pauses (Limit p) o go h = ap (λ q. flowing q go) h

pub onward_pauses : {X Y : Type 0} (p : Pause) (f : Flow X) (go : X → List ℕ → Flow Y) → Pauses p f → Pauses p (onward f go)
onward_pauses pause.Memory f go h = tt
onward_pauses (pause.Fault k p) f go h = ap (λ q. onward q go) h
onward_pauses (pause.Limit p) f go h = ap (λ q. onward q go) h
onward_pauses (pause.Held p) f go h = ap (λ q. onward q go) h
onward_pauses (pause.Wants n p) f go h = ap (λ q. onward q go) h

-- a `?` passes the pause on
pub err_ends : (r : Result End Pause) (p : Pause) (g : Going) (choices : List ℕ) (f : Flow State) → IsErr r × IsErrAnd r (λ e. e ≡ p) → Pauses p f → Ends r g choices f
err_ends (Ok x) p g choices f h e = cc
err_ends (Err q) p g choices f h e = subst (λ t. Pauses t f) (sym h.1) e

-- what is bound plays no part
pub ends_alike : (e : End) (g h : Going) (choices : List ℕ) (f : Flow State) → g.state ≡ h.state → g.used ≡ h.used → Ends (Ok e) g choices f → Ends (Ok e) h choices f
ends_alike end.Falls g h choices f s n k = k ∙ (λ i. falls (state_of (s i)) (drop (n i) choices))
ends_alike end.Over g h choices f s n k = k ∙ (λ i. halts (went (state_of (s i)) (drop (n i) choices)))

pub ends_so : (e d : End) (g : Going) (choices : List ℕ) (f : Flow State) → e ≡ d → Ends (Ok e) g choices f → Ends (Ok d) g choices f
ends_so e d g choices f is = subst (λ (x : End). Ends (Ok x) g choices f) is
