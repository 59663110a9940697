-- Proves that the actions that follow one another are taken.
use Rattle.region_made.specs.Parts.{ahead}
use Rattle.region_made.proofs.Rows.{action_more, actions_all}
use Rattle.region_made.proofs.made.actions.Goals as goal

pub loop-action-preserved : goal.loop-action-preserved
loop-action-preserved c =
    action_more c.loop-action.actions.items c.push.new.self.items c.in-Ok.action (ahead c.args.first c.args.units.now) c.loop-action.units (ahead c.next_unit-next.result c.next_unit-next.new.units) c.loop-action.next c.in-Ok.ensures c.in_ok-push-in-Ok.ensures.items c.next_unit-next.ensures
    c.loop-action.invariant

pub returns-in-Err : goal.returns-in-Err
returns-in-Err c = actions_all c.loop-action.actions.items (ahead c.args.first c.args.units.now) c.loop-action.units c.in-Err.other c.loop-action.next c.in-Err.ensures c.loop-action.invariant
