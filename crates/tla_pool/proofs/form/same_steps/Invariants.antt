-- What the loop of `same_steps` keeps.
use Rattle.std.proofs.Common.{◌≡◌, take}
use Rattle.tla_pool.specs.FormOf.{steps_of}
use Rattle.tla_pool.proofs.form.same_steps.Given as goal

abbrev pub invariant-loop-i : goal.invariant-loop-i
invariant-loop-i l = steps_of (take l.i l.xs) ≡ steps_of (take l.i l.ys)
