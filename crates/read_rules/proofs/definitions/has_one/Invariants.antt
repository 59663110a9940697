-- What is kept: what is left decides.
use Rattle.std.proofs.Common.{◌≡◌, drop}
use Rattle.pcal_tree.specs.Paths.{meets}
use Rattle.read_rules.proofs.definitions.has_one.Given as goal

abbrev pub invariant-loop-one : goal.invariant-loop-one
invariant-loop-one l = meets l.names (drop l.one-index l.list) ≡ meets l.names l.list
