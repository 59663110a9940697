-- What the loop of `latest` keeps.
use Rattle.tla_value.specs.Defs.{IsLatest}
use Rattle.tla_value.proofs.names.Defs.latest.Given as goal

abbrev pub invariant-loop-i : goal.invariant-loop-i
invariant-loop-i l = IsLatest l.name l.self l.i l.found
