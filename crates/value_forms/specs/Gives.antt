-- What code that works on values answers: an outcome, or what a result is seen as; want of memory may come at any time.
use Rattle.std.specs.Prelude.{◌≡◌, Result, Ok, Err}
use Rattle.tla_value.specs.declared.stop.EvalStop.{EvalStop}
use Rattle.tla_value.specs.declared.stop.EvalStop.TheVariants.{Memory, Fault, Limit}
use Rattle.tla_value.specs.Value.{Outcome, fault, over}

-- the stop is that of the outcome
abbrev pub Stops : {Y : Type 0} → EvalStop → Outcome Y → Type 0
Stops Memory o = Unit {0}
Stops (Fault k p) o = o ≡ Err (fault k p)
Stops (Limit p) o = o ≡ Err (over p)

abbrev pub Tells : {Y : Type 0} → Result Y EvalStop → Outcome Y → Type 0
Tells (Ok y) o = o ≡ Ok y
Tells (Err s) o = Stops s o

abbrev pub Gives : {X Y : Type 0} → (X → Y) → Result X EvalStop → Outcome Y → Type 0
Gives view (Ok x) o = o ≡ Ok (view x)
Gives view (Err s) o = Stops s o
