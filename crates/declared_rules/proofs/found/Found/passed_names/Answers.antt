-- Proves that the reserved names of a unit are found.
use Rattle.declared_rules.specs.Titles.{passed_offences}
use Rattle.declared_rules.proofs.TitleLaws.{joins_more, joins_all}
use Rattle.declared_rules.proofs.found.Found.passed_names.Goals as goal

pub loop-name-preserved : goal.loop-name-preserved
loop-name-preserved c = λ ts.
    joins_more ts (passed_offences c.args.place) c.args.names.now c.args.self.now c.loop-name.self c.passed_name.new.self c.loop-name.name-index c.name-item.result c.name-item.is c.loop-name-test.true
    (c.loop-name.invariant ts) (c.passed_name.ensures ts)

pub returns : goal.returns
returns c = λ ts. joins_all ts (passed_offences c.args.place) c.args.names.now c.args.self.now c.loop-name.self c.loop-name.name-index c.loop-name-test.false (c.loop-name.invariant ts)
