-- What the code answers of a part of a step or start, as what comes of that part by a list of choices.
use Rattle.std.specs.Prelude.{◌≡◌, ℕ, List, Ok, Err, Result}
use Rattle.tla_value.specs.declared.stop.EvalStop.{EvalStop}
use Rattle.tla_value.specs.declared.stop.EvalStop.TheVariants as stop
use Rattle.tla_value.specs.Value.{fault, over}
use Rattle.pcal_tree.specs.Choices.{failed, blocked, wanting}
use Rattle.step_walks.specs.Flows.{Flow, falls, halts}
use Rattle.step_choices.specs.declared.pause.Pause.{Pause}
use Rattle.step_choices.specs.declared.pause.Pause.TheVariants as pause

abbrev pub pause_of : EvalStop → Pause
pause_of stop.Memory = pause.Memory
pause_of (stop.Fault k p) = pause.Fault k p
pause_of (stop.Limit p) = pause.Limit p

-- want of memory may come at any time
abbrev pub Pauses : {X : Type 0} → Pause → Flow X → Type 0
Pauses pause.Memory f = Unit {0}
Pauses (pause.Fault k p) f = f ≡ halts (failed (fault k p))
Pauses (pause.Limit p) f = f ≡ halts (failed (over p))
Pauses (pause.Held p) f = f ≡ halts (blocked p)
Pauses (pause.Wants n p) f = f ≡ halts (wanting n p)

-- it goes through, to what the answer is seen as and with these choices left, or it pauses
abbrev pub Flows : {X Y : Type 0} → (X → Y) → Result X Pause → List ℕ → Flow Y → Type 0
Flows view (Ok x) ns f = f ≡ falls (view x) ns
Flows view (Err p) ns f = Pauses p f
