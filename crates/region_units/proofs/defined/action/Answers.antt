-- Proves what is asked of `action`.
use Rattle.std.proofs.Common.{sym, ap, ◌∙◌}
use Rattle.region_units.specs.Stands.{at_most_one}
use Rattle.region_units.proofs.UnitsStand.{action_told}
use Rattle.region_units.proofs.defined.action.Goals as goal

pub returns-clause-read : goal.returns-clause-read
returns-clause-read c = λ p q f n.
    action_told _ c.args.title p q f c.in_ok-body.ensures.read c.in-Some.parameter (ap at_most_one (sym n) ∙ sym c.in_ok-found.ensures ∙ c.in-Some.is)
