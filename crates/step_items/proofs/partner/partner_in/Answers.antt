-- Proves that what a call is one statement with is before the list.

use Rattle.step_items.proofs.PartnerLaws.{partner_first}
use Rattle.step_items.proofs.partner.partner_in.Goals as goal

pub returns-in-Some : goal.returns-in-Some
returns-in-Some c = λ ts. partner_first ts c.partner_at.result c.args.rest.now c.in-Some.stmt.now c.in-Some.ensures.value (c.partner_at.ensures ts)
