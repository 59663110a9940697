-- Proves what is asked of `least`.
use Rattle.std.proofs.Common.{◌∙◌}
use Rattle.expr_nodes.proofs.DepthLemmas.{least_is}
use Rattle.expr_nodes.proofs.depth.least.Goals as goal

pub returns : goal.returns
returns c = λ w f a p q x e h. c.least_of.ensures ∙ least_is w f c.args.left c.args.shape c.args.element c.args.place c.args.op a p q x e h
