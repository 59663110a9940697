-- What is told before a state, and what is added to a text while a trace is explained.
use Rattle.std.specs.Prelude.{◌≡◌, List, ◌++◌, Option, Some, None}
use Rattle.std.specs.Option.{option_copied}
use Rattle.tla_value.specs.States.{value_of}
use Rattle.module_tree.specs.Module.{Module}
use Rattle.pcal_tree.specs.Scope.{State}
use Rattle.step_runner.specs.Explained as pure
use Rattle.step_runner.specs.Fronts.{Text}
use Rattle.step_runner.specs.Shown.{Before, stepped, terminating, pair_before, state_text}
use Rattle.step_moves.specs.StatesOf.{state_of}
use Rattle.followed_runs.specs.Parties.{program_of}
use Rattle.explained_traces.specs.declared.befores.Leaving.{Leaving}
use Rattle.explained_traces.specs.declared.explaining.Halt.{Halt}
use Rattle.explained_traces.specs.declared.judge.Judge.{Judge}
use Rattle.explained_traces.specs.declared.judge.Pair.{Pair}
use Rattle.explained_traces.specs.Halts.{halt_of}

-- a step from a label, or none
abbrev pub before_by : Option Leaving → Before
before_by None = terminating
before_by (Some l) = stepped l.label (option_copied l.who) l.place

-- what is told before the state of a pair
abbrev pub before_pair : Judge → Module → Pair → Before
before_pair j m q = pair_before (program_of j.party) m (value_of j.asked.constants.now) (state_of q.from.now) (state_of q.to.now)

-- its text
abbrev pub pair_text : Judge → Module → Pair → Text
pair_text j m q = state_text (program_of j.party) q.number (before_pair j m q) (state_of q.to.now)

-- the text of the states is added, and this is why it stops
pub record Shows (shown : List State → Text) (old new : Text) (o : Option Halt) (x : pure.Explained) : Type 0 where
  pub text : new ≡ old ++ shown x.states
  pub halt : halt_of o ≡ x.halt
