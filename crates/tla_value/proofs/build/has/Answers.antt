-- Proves what is asked of `has`.
use Rattle.std.proofs.Common.{◌∙◌}
use Rattle.tla_value.proofs.Searched.{held}
use Rattle.tla_value.proofs.build.has.Goals as goal

pub returns : goal.returns
returns c =
    c.is_ok.ensures.value ∙ held c.args.v.now c.args.members.now c.binary_search.result c.requires c.binary_search.ensures.bound c.binary_search.ensures.position
