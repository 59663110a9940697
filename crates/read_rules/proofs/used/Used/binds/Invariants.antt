-- What is kept: the names of those that were passed were met, and they are bound.
use Rattle.read_rules.proofs.BodyLaws.{MetBinds}
use Rattle.read_rules.proofs.used.Used.binds.Given as goal

abbrev pub invariant-loop-bind : goal.invariant-loop-bind
invariant-loop-bind l = MetBinds l.pool l.list l.fn.self l.self l.bind-index
