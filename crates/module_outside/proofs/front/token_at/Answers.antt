-- Proves that a token is the first of those from its number on.
use Rattle.expr_nodes.specs.ViewSeen.{view_seen}
use Rattle.module_outside.proofs.FrontLaws.{ahead_there}
use Rattle.module_outside.proofs.front.token_at.Goals as goal

pub returns : goal.returns
returns c =
    let t = c.index-token.result.now in
    ahead_there c.args.tokens.now c.args.at t (view_seen c.args.tokens.now.bytes.items c.view_of.result) c.index-token.ensures c.requires c.view_of.ensures
