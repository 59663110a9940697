-- What is kept: the names that were passed are there.
use Rattle.std.proofs.Common.{◌≡◌, take}
use Rattle.read_rules.proofs.macros.copied_names.Given as goal

abbrev pub invariant-loop-one : goal.invariant-loop-one
invariant-loop-one l = l.list.items ≡ take l.one-index l.names
