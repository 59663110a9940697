-- Words of the law on lists of choices: what comes of one as an outcome.
use Rattle.std.specs.Prelude.{[], Option, Some, None, Ok, Err}
use Rattle.tla_value.specs.Value.{Outcome}
use Rattle.pcal_tree.specs.Scope.{State}
use Rattle.pcal_tree.specs.Choices.{Walk, went, failed, blocked, wanting}

-- the outcome that a walk tells, if any
abbrev pub told : Walk → Option (Outcome State)
told (went t ns) = Some (Ok t)
told (failed k) = Some (Err k)
told (blocked at) = None
told (wanting k at) = None

-- a walk to an outcome, by choices that are all used
abbrev pub landing : Outcome State → Walk
landing (Ok t) = went t []
landing (Err k) = failed k
