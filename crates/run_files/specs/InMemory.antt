-- What came before a state, why a step can't be taken, and trouble, in memory, and what they stand for.
use Rattle.std.specs.Option.{option_copied}
use Rattle.tla_value.specs.Value.{fault, over}
use Rattle.tla_value.specs.Value as tree
use Rattle.pcal_tree.specs.Scope.{State}
use Rattle.pcal_tree.specs.StepAnswers.{Reply, held_at, no_label, needs_choice, too_many_choices}
use Rattle.step_runner.specs.Shown.{initial, stepped, terminating}
use Rattle.step_runner.specs.Shown as shown
use Rattle.run_files.specs.declared.state.Before.{Before}
use Rattle.run_files.specs.declared.state.Before.TheVariants as before
use Rattle.run_files.specs.declared.stops.Why.{Why}
use Rattle.run_files.specs.declared.stops.Why.TheVariants as why
use Rattle.run_files.specs.declared.stops.Trouble.{Trouble}
use Rattle.run_files.specs.declared.stops.Trouble.TheVariants as trouble

abbrev pub before_of : Before → shown.Before
before_of before.Initial = initial
before_of (before.Stepped l who at) = stepped l.now (option_copied who) at
before_of before.Terminating = terminating

abbrev pub reply_of : Why → Reply State
reply_of (why.Held at) = held_at at
reply_of why.NoLabel = no_label
reply_of (why.NeedsChoice n at) = needs_choice n at
reply_of (why.TooManyChoices at) = too_many_choices at

abbrev pub trouble_of : Trouble → tree.Trouble
trouble_of (trouble.Fault k at) = fault k at
trouble_of (trouble.Limit at) = over at
