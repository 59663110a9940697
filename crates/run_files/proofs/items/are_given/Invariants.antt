-- What the loop of `are_given` keeps: of the names that are left it is to be said.
use Rattle.std.proofs.Common.{◌≡◌, drop}
use Rattle.tla_tree.specs.Tree.{words}
use Rattle.step_runner.specs.Items.{are_all, names_of}
use Rattle.run_files.proofs.items.are_given.Given as goal

abbrev pub invariant-loop-one : goal.invariant-loop-one
invariant-loop-one l = are_all (words l.names) (names_of l.state) ≡ are_all (words (drop l.one-index l.names)) (names_of l.state)
