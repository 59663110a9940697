-- What the code answers of a step or of a start, as the reply of the definition; want of memory may come at any time.
use Rattle.std.specs.Prelude.{◌≡◌, Ok, Err, Result}
use Rattle.tla_value.specs.declared.stop.EvalStop.{EvalStop}
use Rattle.tla_value.specs.declared.stop.EvalStop.TheVariants as stop
use Rattle.tla_value.specs.Value.{fault, over}
use Rattle.pcal_tree.specs.StepAnswers.{Reply, reached, held_at, no_label, needs_choice, too_many_choices, stopped_by}
use Rattle.step_choices.specs.declared.pause.Pause.{Pause}
use Rattle.step_choices.specs.declared.pause.Pause.TheVariants as pause
use Rattle.step_meaning.specs.declared.halt.Halt.{Halt}
use Rattle.step_meaning.specs.declared.halt.Halt.TheVariants as halt

abbrev pub halted : EvalStop → Halt
halted stop.Memory = halt.Memory
halted (stop.Fault k p) = halt.Fault k p
halted (stop.Limit p) = halt.Limit p

abbrev pub halt_of : Pause → Halt
halt_of pause.Memory = halt.Memory
halt_of (pause.Fault k p) = halt.Fault k p
halt_of (pause.Limit p) = halt.Limit p
halt_of (pause.Held p) = halt.Held p
halt_of (pause.Wants n p) = halt.NeedsChoice n p

abbrev pub HaltsBy : {X : Type 0} → Halt → Reply X → Type 0
HaltsBy halt.Memory r = Unit {0}
HaltsBy (halt.Fault k p) r = r ≡ stopped_by (fault k p)
HaltsBy (halt.Limit p) r = r ≡ stopped_by (over p)
HaltsBy (halt.Held p) r = r ≡ held_at p
HaltsBy halt.NoLabel r = r ≡ no_label
HaltsBy (halt.NeedsChoice n p) r = r ≡ needs_choice n p
HaltsBy (halt.TooManyChoices p) r = r ≡ too_many_choices p

abbrev pub Replies : {X Y : Type 0} → (X → Y) → Result X Halt → Reply Y → Type 0
Replies view (Ok x) r = r ≡ reached (view x)
Replies view (Err h) r = HaltsBy h r
