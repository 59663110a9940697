-- Why the loop of `read_states` ends, and what it keeps: the states so far.
use Rattle.std.proofs.Common.{◌≤◌, ◌-◌, length}
use Rattle.run_files.specs.Headings.{StatesSoFar}
use Rattle.run_files.proofs.trace.read_states.Given as goal

abbrev pub decreases-loop-states : goal.decreases-loop-states
decreases-loop-states l = length l.text - l.at

abbrev pub invariant-loop-states : goal.invariant-loop-states
invariant-loop-states l = StatesSoFar l.vars l.text l.from l.states.items l.at × (l.at ≤ length l.text)
