-- What is kept while numbers are tried: the names with those before are taken.
use Rattle.std.proofs.Common.{◌+◌}
use Rattle.written_names.specs.Giving.{AreTried, TakenFrom}
use Rattle.written_names.proofs.giver.Giver.first_numbered.Given as goal

abbrev pub invariant-loop-less : goal.invariant-loop-less
invariant-loop-less l = AreTried l.self.names l.self.tried → TakenFrom l.self.names l.name 1 (l.less + 1)
