-- Proves what is asked of `fits`.
use Rattle.std.proofs.Common.{◌∙◌}
use Rattle.expr_nodes.proofs.DepthLemmas.{fits_is}
use Rattle.expr_nodes.proofs.depth.fits.Goals as goal

pub returns : goal.returns
returns c = λ w f a e. c.is_within.ensures ∙ fits_is w c.args.shape c.args.left a e
