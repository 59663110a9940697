-- Proves that each node of an expression counts once.
use Rattle.std.proofs.Common.{◌∙◌}
use Rattle.tla_tree.specs.Tree.{graft}
use Rattle.tla_tree.specs.Pool.{at}
use Rattle.expansion_size.specs.FramesIn.{put_by}
use Rattle.expansion_size.proofs.SideLaws.{whole_spent}
use Rattle.expansion_size.proofs.expressions.whole.Goals as goal

pub returns : goal.returns
returns c = λ d. c.expression.ensures ∙ whole_spent (graft (put_by c.args.pool.now c.args.frames.now) (at c.args.pool.now c.args.e)) c.args.left
