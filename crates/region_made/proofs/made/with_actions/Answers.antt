-- Proves that the actions are put before what is behind.
use Rattle.region_made.proofs.PartsMade.{with_part, without, puts_actions}
use Rattle.region_made.proofs.made.with_actions.Goals as goal

pub returns-in_default : goal.returns-in_default
returns-in_default c = without (puts_actions c.in_ok-actions.actions) c.in_ok-actions.ensures c.with_ended.result c.in_default.is c.with_ended.ensures

pub returns : goal.returns
returns c = with_part (puts_actions c.in_ok-actions.actions) c.in_ok-actions.ensures c.with_ended.result c.in-Some.region c.in-Some.is c.with_ended.ensures
