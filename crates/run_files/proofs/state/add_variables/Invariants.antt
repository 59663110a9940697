-- What the loop of `add_variables` keeps: what is written, and the lines of the variables that are left.
use Rattle.std.proofs.Common.{◌≡◌, ◌++◌, drop}
use Rattle.std.specs.List.{flat_map}
use Rattle.step_runner.specs.Shown.{variable_text}
use Rattle.step_runner.specs.Explained.{state_of}
use Rattle.run_files.proofs.state.add_variables.Given as goal

abbrev pub invariant-loop-name : goal.invariant-loop-name
invariant-loop-name l =
    let line = variable_text (state_of l.state) in
    l.out ++ flat_map line (drop l.name-index l.names) ≡ l.fn.out ++ flat_map line l.names
