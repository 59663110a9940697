-- What is kept: what is left still gives the whole.
use Rattle.declared_rules.proofs.LeafLaws.{UnderBound}
use Rattle.declared_rules.proofs.bind_walk.Walk.under_bound.Given as goal

abbrev pub invariant-loop-i : goal.invariant-loop-i
invariant-loop-i l = UnderBound l.fn.self l.self l.name l.i
