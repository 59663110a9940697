use Rattle.std.proofs.Common.{[], ◌+◌, ◌∙◌}
use Rattle.tla_token.specs.Tokens.{stretch}
use Rattle.module_split.proofs.SplitParts.{header_seen}
use Rattle.module_split.proofs.seek.is_header.Goals as goal

pub returns : goal.returns
returns c = c.is_header_line.ensures (stretch [] c.args.stand.at (c.args.stand.at + c.args.stand.len)) ∙ header_seen [] c.args.stand
