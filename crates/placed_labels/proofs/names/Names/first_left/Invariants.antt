-- What is kept while numbers are tried: the names with those before are typed.
use Rattle.std.proofs.Common.{◌≤◌}
use Rattle.placed_labels.proofs.NameLaws.{TypedUpTo}
use Rattle.placed_labels.proofs.names.Names.first_left.Given as goal

abbrev pub invariant-loop-number : goal.invariant-loop-number
invariant-loop-number l = (l.fn.self.from ≤ l.number) × TypedUpTo l.fn.self l.number
