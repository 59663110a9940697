-- Proves that the label of a statement that is not the first is the one before it.
use Rattle.std.proofs.Common.{◌<◌, ◌∙◌, arith}
use Rattle.label_actions.proofs.FirstSteps.{label_before}
use Rattle.label_actions.proofs.walk.label_at.Goals as goal

pub returns-else-number-eq0 : goal.returns-else-number-eq0
returns-else-number-eq0 c = λ ts e.
    let some : 0 < c.args.number = omega (arith, c.if-number-eq0.false) in
    c.follow.ensures ts e ∙ label_before ts c.args.here.now c.args.exit.now c.args.stmts.now c.args.number some
