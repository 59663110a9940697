-- What is kept: the first offence so far, and the definitions that are known.
use Rattle.name_rules.proofs.RoutineLaws.{Defining}
use Rattle.name_rules.proofs.found.Found.of_definitions.Given as goal

abbrev pub invariant-loop-i : goal.invariant-loop-i
invariant-loop-i l = Defining l.pool l.list l.fn.sight l.sight l.found l.i
