-- What is kept: those that were passed are copied.
use Rattle.std.proofs.Common.{◌≡◌, take}
use Rattle.expansion.proofs.algorithm.names.Given as goal

abbrev pub invariant-loop-name : goal.invariant-loop-name
invariant-loop-name l = l.copies.items ≡ take l.name-index l.list
