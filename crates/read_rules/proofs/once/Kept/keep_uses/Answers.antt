-- Proves that the uses that are on one path are kept.
use Rattle.read_rules.specs.WantedIn.{wants}
use Rattle.read_rules.specs.Sets.{origins}
use Rattle.read_rules.proofs.KeptLaws.{keeps_none, uses_more, uses_all}
use Rattle.read_rules.proofs.once.Kept.keep_uses.Goals as goal

pub loop-one-init : goal.loop-one-init
loop-one-init c = keeps_none c.args.self.now.uses.entries

pub loop-one-preserved : goal.loop-one-preserved
loop-one-preserved c =
    uses_more (wants c.args.wanted.now) (origins c.args.after.now) c.args.self.now.uses.entries c.loop-one.self.uses.entries c.keep_wanted.new.self.uses.entries c.args.uses.now c.loop-one.one-index
    c.one-item.result c.one-item.is c.loop-one-test.true c.loop-one.invariant c.in_ok-keep_wanted.ensures

pub returns : goal.returns
returns c =
    uses_all (wants c.args.wanted.now) (origins c.args.after.now) c.args.self.now.uses.entries c.loop-one.self.uses.entries c.args.uses.now c.loop-one.one-index c.loop-one-test.false c.loop-one.invariant
