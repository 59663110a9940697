-- What is kept: whether one of the names that were passed is there.
use Rattle.std.proofs.Common.{◌≡◌, take}
use Rattle.pcal_tree.specs.Paths.{meets}
use Rattle.label_steps.proofs.path.Path.has_one.Given as goal

abbrev pub invariant-loop-name : goal.invariant-loop-name
invariant-loop-name l = l.found ≡ meets l.self.names.keys (take l.name-index l.names)
