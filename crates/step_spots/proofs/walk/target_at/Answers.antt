-- Proves that the label of a statement that is not the first is the one before it.
use Rattle.std.proofs.Common.{◌<◌, ◌∙◌, arith}
use Rattle.step_spots.specs.Targets.{target_word}
use Rattle.step_spots.proofs.FirstSpots.{label_before}
use Rattle.step_spots.proofs.walk.target_at.Goals as goal

pub returns-else-number-eq0 : goal.returns-else-number-eq0
returns-else-number-eq0 c = λ ts.
    let some : 0 < c.args.number = omega (arith, c.if-number-eq0.false) in
    c.next_target.ensures ts ∙ label_before ts (target_word c.args.here) (target_word c.args.exit) c.args.stmts.now c.args.number some
