-- Proves that what units offend is found.
use Rattle.module_outside.specs.declared.passed.Passed.{Passed}
use Rattle.module_outside.specs.Passing.{passed_seen}
use Rattle.declared_rules.specs.Titles.{unit_offences}
use Rattle.declared_rules.proofs.JoinLaws.{joins_as}
use Rattle.declared_rules.proofs.TitleLaws.{joins_more, joins_all, of_mapped}
use Rattle.declared_rules.proofs.found.Found.units.Goals as goal

pub loop-unit-preserved : goal.loop-unit-preserved
loop-unit-preserved c = λ ts.
    joins_more ts (λ (u : Passed). unit_offences (passed_seen u)) c.args.list.now c.args.self.now c.loop-unit.self c.unit.new.self c.loop-unit.unit-index c.unit-item.result c.unit-item.is c.loop-unit-test.true
    (c.loop-unit.invariant ts) (c.unit.ensures ts)

pub returns : goal.returns
returns c = λ ts.
    joins_as ts c.args.self.now c.loop-unit.self _ _ (of_mapped unit_offences passed_seen c.args.list.now)
    (joins_all ts (λ (u : Passed). unit_offences (passed_seen u)) c.args.list.now c.args.self.now c.loop-unit.self c.loop-unit.unit-index c.loop-unit-test.false (c.loop-unit.invariant ts))
