-- Proves that a right side has what stands for its names.
use Rattle.std.proofs.Common.{◌∙◌, arith}
use Rattle.macro_arguments.specs.FramesStay.{graft_grown}
use Rattle.expansion.proofs.parts.assignment.Goals as goal

pub returns-clause-right : goal.returns-clause-right
returns-clause-right c =
    c.in_ok-right.ensures.tree
    ∙ graft_grown c.args.pool.now c.left_side.new.pool c.in_ok-left.ensures.kept c.args.frames.now c.requires.inner c.args.one.now.right (omega (arith, c.requires.there))
