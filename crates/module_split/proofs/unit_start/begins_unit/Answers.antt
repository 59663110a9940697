use Rattle.std.proofs.Common.{◌∙◌}
use Rattle.tla_token.proofs.Fronts.{other_byte}
use Rattle.module_split.proofs.UnitStarts.{name_first, name_away, sign_here}
use Rattle.module_split.proofs.unit_start.begins_unit.Goals as goal

pub returns-then-place-eq1 : goal.returns-then-place-eq1
returns-then-place-eq1 c k at h = name_first c.args.place c.args.class c.args.bytes.now k c.is_starter.result c.in-Name.is h c.if-place-eq1.true c.is_starter.ensures

pub returns-else-place-eq1 : goal.returns-else-place-eq1
returns-else-place-eq1 c k at h = other_byte c.args.place.col 1 c.if-place-eq1.false ∙ name_away c.args.place c.args.class c.args.bytes.now k c.in-Name.is h c.if-place-eq1.false

pub returns-in-Other : goal.returns-in-Other
returns-in-Other c k at h = sign_here c.args.place c.args.class c.args.bytes.now k c.begins_at.result c.in-Other.is h c.begins_at.ensures
