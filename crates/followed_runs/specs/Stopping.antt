-- What is added to a text while a script is followed, and why a run stops, in memory, and what that stands for.
use Rattle.std.specs.Prelude.{◌≡◌, List, ◌++◌, Option, Some, None, Result, Ok, Err}
use Rattle.tla_value.specs.States.{Entries}
use Rattle.pcal_tree.specs.Scope.{State}
use Rattle.pcal_tree.specs.StepAnswers.{Reply, stopped_by}
use Rattle.run_files.specs.InMemory.{reply_of, trouble_of}
use Rattle.step_runner.specs.Followed as pure
use Rattle.step_runner.specs.Fronts.{Text}
use Rattle.step_moves.specs.StatesOf.{state_of}
use Rattle.step_meaning.specs.declared.halt.Halt.{Halt}
use Rattle.step_meaning.specs.declared.halt.Halt.TheVariants as halt
use Rattle.followed_runs.specs.declared.cause.Cause.{Cause}
use Rattle.followed_runs.specs.declared.cause.Cause.TheVariants as cause
use Rattle.followed_runs.specs.declared.cause.Stop.{Stop}

abbrev pub reply_by : Cause → Reply State
reply_by (cause.Step w) = reply_of w
reply_by (cause.Trouble t) = stopped_by (trouble_of t)

abbrev pub stop_of : Option Stop → Option pure.Stop
stop_of None = None
stop_of (Some s) = Some (record { step = s.step; reply = reply_by s.cause })

-- the text of the state that is reached is added, or none; where memory runs out, any
abbrev pub Adds : (State → Text) → Text → Text → Result Entries Halt → Type 0
Adds shown old new (Ok m) = new ≡ old ++ shown (state_of m)
Adds shown old new (Err halt.Memory) = Unit {0}
Adds shown old new (Err h) = new ≡ old

-- the text of the states is added, and this is where it stops
pub record Shows (shown : List State → Text) (old new : Text) (o : Option Stop) (f : pure.Followed) : Type 0 where
  pub text : new ≡ old ++ shown f.states
  pub stop : stop_of o ≡ f.stop
