-- Proves that a row ends its step where one of them does.
use Rattle.std.proofs.Common.{[], refl}
use Rattle.step_items.proofs.SideLaws.{side_finished}
use Rattle.step_items.proofs.statements.finish_row.Goals as goal

pub returns-clause-made : goal.returns-clause-made
returns-clause-made c = λ P u x d b q k p.
    let a = c.args.inner.now in
    side_finished P u x a.before.now a.here.now a.exit.now b c.args.ends c.args.pool.now c.finish.new.pool c.args.row.items.items c.finish.new.out.items c.args.row.reach c.in_ok-assigned.assigned c.args.ends c.if-not-ends.false refl
    (c.in_ok-assigned.ensures.made P u x d c.finish.new.pool [] b) q p
