-- Proves that all uses are seen as before.
use Rattle.read_rules.proofs.KeptLaws.{groups_none, groups_more, groups_all}
use Rattle.read_rules.proofs.once.Kept.groups.Goals as goal

pub loop-number-init : goal.loop-number-init
loop-number-init c = groups_none c.new-list.result.items c.args.self.now.uses.entries c.new-list.ensures.items

pub loop-number-preserved : goal.loop-number-preserved
loop-number-preserved c =
    groups_more c.loop-number.list.items c.push.new.self.items c.in_ok-group_at.field-0 c.args.self.now.uses.entries c.loop-number.number c.len-number-end.result c.len-number-end.ensures.len
    c.loop-number-test.true c.in_ok-push.ensures.items c.in_ok-group_at.ensures c.loop-number.invariant

pub returns : goal.returns
returns c =
    groups_all c.loop-number.list.items c.args.self.now.uses.entries c.loop-number.number c.len-number-end.result c.len-number-end.ensures.len c.loop-number-test.false c.loop-number.invariant
