-- What is kept: the names that were passed are there.
use Rattle.std.proofs.Common.{◌≡◌, take}
use Rattle.label_steps.proofs.around.copies.Given as goal

abbrev pub invariant-loop-name : goal.invariant-loop-name
invariant-loop-name l = l.list.items ≡ take l.name-index l.names
