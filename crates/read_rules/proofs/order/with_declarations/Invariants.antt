-- What is kept: the first of what was found and of the offences of those that were passed, which are declared now.
use Rattle.read_rules.proofs.OrderLaws.{MetEarly}
use Rattle.read_rules.proofs.order.with_declarations.Given as goal

abbrev pub invariant-loop-i : goal.invariant-loop-i
invariant-loop-i l = MetEarly l.fn.known l.known l.fn.so_far l.found l.pool l.list l.i
