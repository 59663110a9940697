use Rattle.std.proofs.Common.{◌∙◌}
use Rattle.tla_token.specs.Readings.{joined}
use Rattle.module_split.proofs.SplitParts.{place_new, lower_seen}
use Rattle.module_split.proofs.split.placement_fault.Goals as goal

pub returns-then-gap : goal.returns-then-gap
returns-then-gap c =
    c.sooner.ensures ∙ (λ i. joined (c.line_fault.ensures i) (c.unit_fault-unit.ensures i))
    ∙ place_new c.args.text.now c.args.stands.now c.args.gap c.args.comment c.behind.result.now c.requires.gap c.if-gap.true (lower_seen c.args.text.now c.args.stands.now c.args.comment c.behind.result.now c.requires.comment c.behind.ensures)
