use Rattle.module_tree.proofs.LineLengths.{dashed}
use Rattle.module_split.proofs.line.past_dashes.Goals as goal

pub returns : goal.returns
returns c = dashed c.args.text.now c.in_ok-rest.rest.now c.dash_len.result c.in_ok-rest.ensures c.dash_len.ensures.value
