-- What is kept: the names that were passed are there too.
use Rattle.std.proofs.Common.{[], take}
use Rattle.label_steps.specs.GatheredIn.{Adds}
use Rattle.label_steps.proofs.gathered.Gathered.add.Given as goal

abbrev pub invariant-loop-name : goal.invariant-loop-name
invariant-loop-name l = Adds l.known l.fn.self l.self (take l.name-index l.names) []
