-- Proves that the names of units that are passed on are bound.
use Rattle.module_outside.specs.declared.passed.Passed.{Passed}
use Rattle.algorithm_limits.proofs.BoundLemmas.{hides_as}
use Rattle.declared_rules.proofs.OutsideLaws.{hides_more, hides_all}
use Rattle.declared_rules.proofs.outside_words.bind_passed.Goals as goal

pub loop-unit-preserved : goal.loop-unit-preserved
loop-unit-preserved c =
    hides_more (λ (u : Passed). u.names.items) c.args.list.now c.args.bound.now c.loop-unit.bound c.bind_names.new.bound c.loop-unit.unit-index c.unit-item.result c.unit-item.is c.loop-unit-test.true c.loop-unit.invariant
    (hides_as c.loop-unit.bound c.bind_names.new.bound _ _ c.deref.ensures.value c.in_ok-bind_names.ensures)

pub returns : goal.returns
returns c = hides_all (λ (u : Passed). u.names.items) c.args.list.now c.args.bound.now c.loop-unit.bound c.loop-unit.unit-index c.loop-unit-test.false c.loop-unit.invariant
