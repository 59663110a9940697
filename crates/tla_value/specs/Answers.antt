-- What code that evaluates answers: the outcome, or that memory ran out, which may come at any time.
use Rattle.std.specs.Prelude.{◌≡◌, Result, Ok, Err}
use Rattle.tla_value.specs.declared.stop.EvalStop.{EvalStop}
use Rattle.tla_value.specs.declared.stop.EvalStop.TheVariants.{Memory, Fault, Limit}
use Rattle.tla_value.specs.Value.{Outcome, fault, over}

abbrev pub Answers : {X : Type 0} → Result X EvalStop → Outcome X → Type 0
Answers (Ok x) o = o ≡ Ok x
Answers (Err Memory) o = Unit {0}
Answers (Err (Fault k p)) o = o ≡ Err (fault k p)
Answers (Err (Limit p)) o = o ≡ Err (over p)
