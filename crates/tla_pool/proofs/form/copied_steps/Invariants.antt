-- What the loop of `copied_steps` keeps.
use Rattle.std.proofs.Common.{◌≡◌, take}
use Rattle.tla_pool.specs.FormOf.{steps_of}
use Rattle.tla_pool.proofs.form.copied_steps.Given as goal

abbrev pub invariant-loop-step : goal.invariant-loop-step
invariant-loop-step l = steps_of l.copies.items ≡ steps_of (take l.step-index l.steps)
