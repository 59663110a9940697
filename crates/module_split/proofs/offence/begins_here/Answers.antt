use Rattle.std.proofs.Common.{sym, ◌∙◌}
use Rattle.module_split.proofs.StandSteps.{begins_seen}
use Rattle.module_split.proofs.offence.begins_here.Goals as goal

pub returns-then-is_token : goal.returns-then-is_token
returns-then-is_token c =
    begins_seen c.args.text.now c.args.stand c.in-Part.class c.bytes_of.result.now c.begins_unit.result c.in-Part.is c.bytes_of.ensures.value (sym c.if-is_token.true ∙ c.is_token.ensures c.bytes_of.result.now) c.begins_unit.ensures
