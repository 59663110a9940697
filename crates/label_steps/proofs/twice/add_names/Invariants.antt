-- What is kept: the names that were passed are there too.
use Rattle.std.proofs.Common.{◌≡◌, ◌++◌, take}
use Rattle.label_steps.specs.AroundIn.{names_of}
use Rattle.label_steps.proofs.twice.add_names.Given as goal

abbrev pub invariant-loop-one : goal.invariant-loop-one
invariant-loop-one l = l.list.items ≡ l.fn.list.items ++ names_of (take l.one-index l.declarations)
