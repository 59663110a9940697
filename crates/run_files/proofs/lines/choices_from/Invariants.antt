-- Why the loop of `choices_from` ends, and what it keeps: the choices so far, and that no blank is next.
use Rattle.std.proofs.Common.{◌≡◌, ◌≤◌, ◌-◌, ◌++◌, length}
use Rattle.std.specs.Prelude.{option_map}
use Rattle.step_runner.specs.Fronts.{choices_from}
use Rattle.run_files.specs.Fronts.{Stops}
use Rattle.run_files.proofs.lines.choices_from.Given as goal

abbrev pub decreases-loop-from : goal.decreases-loop-from
decreases-loop-from l = length l.text - l.from

abbrev pub invariant-loop-from : goal.invariant-loop-from
invariant-loop-from l = (choices_from l.text l.at ≡ option_map (λ ns. l.choices.items ++ ns) (choices_from l.text l.from)) × (l.from ≤ length l.text) × Stops l.text l.from
