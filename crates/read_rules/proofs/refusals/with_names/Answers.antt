-- Proves that the first offence of names is found.
use Rattle.read_rules.specs.RefusalsIn.{name_offence}
use Rattle.read_rules.proofs.FoundLaws.{found_none, found_more, found_all}
use Rattle.read_rules.proofs.refusals.with_names.Goals as goal

pub loop-one-init : goal.loop-one-init
loop-one-init c = λ ds a. found_none (name_offence ds c.args.after.now) c.args.names.now c.args.so_far

pub loop-one-preserved : goal.loop-one-preserved
loop-one-preserved c = λ ds a.
    found_more (name_offence ds c.args.after.now) c.args.names.now c.loop-one.one-index c.one-item.result c.args.so_far c.loop-one.found c.with_name-found.result c.one-item.is c.loop-one-test.true
    (c.with_name-found.ensures ds a) (c.loop-one.invariant ds a)

pub returns : goal.returns
returns c = λ ds a. found_all (name_offence ds c.args.after.now) c.args.names.now c.loop-one.one-index c.args.so_far c.loop-one.found c.loop-one-test.false (c.loop-one.invariant ds a)
