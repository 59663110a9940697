use Rattle.std.proofs.Common.{[], ◌+◌, ◌∙◌}
use Rattle.tla_token.specs.Tokens.{stretch}
use Rattle.module_split.proofs.Gaps.{region_seen}
use Rattle.module_split.proofs.seek.is_region.Goals as goal

pub returns : goal.returns
returns c = c.is_region_shape.ensures (stretch [] c.args.stand.at (c.args.stand.at + c.args.stand.len)) ∙ region_seen [] c.args.stand
