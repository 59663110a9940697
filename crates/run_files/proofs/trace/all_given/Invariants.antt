-- What the loop of `all_given` keeps: of the names that are left it is to be said.
use Rattle.std.proofs.Common.{◌≡◌, drop}
use Rattle.step_runner.specs.Items.{are_all, names_of}
use Rattle.run_files.proofs.trace.all_given.Given as goal

abbrev pub invariant-loop-name : goal.invariant-loop-name
invariant-loop-name l = are_all l.names (names_of l.state) ≡ are_all (drop l.name-index l.names) (names_of l.state)
