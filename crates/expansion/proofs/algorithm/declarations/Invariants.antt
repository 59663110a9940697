-- What is kept: those that were passed are copied.
use Rattle.std.proofs.Common.{◌≡◌, take}
use Rattle.expansion.proofs.algorithm.declarations.Given as goal

abbrev pub invariant-loop-one : goal.invariant-loop-one
invariant-loop-one l = l.copies.items ≡ take l.one-index l.list
