-- What is kept: the names that were passed are there too.
use Rattle.std.proofs.Common.{take}
use Rattle.label_steps.specs.PathsIn.{Grows}
use Rattle.label_steps.proofs.path.add_names.Given as goal

abbrev pub invariant-loop-name : goal.invariant-loop-name
invariant-loop-name l = Grows l.fn.set.keys l.set.keys (take l.name-index l.names)
