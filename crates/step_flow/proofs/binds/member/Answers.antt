-- Proves which member is taken.
use Rattle.std.proofs.Common.{arith}
use Rattle.step_flow.proofs.ChosenLaws.{set_taken, set_pauses}
use Rattle.step_flow.proofs.BindLaws.{err_leads}
use Rattle.step_flow.proofs.binds.member.Goals as goal

pub returns-in_err-i-clause-taken : goal.returns-in_err-i-clause-taken
returns-in_err-i-clause-taken c go =
    err_leads c.from_residual-in_err-i.result c.in_err-i.field-0.0 _ _ c.from_residual-in_err-i.ensures
    (set_pauses _ c.args.at c.in_ok-all.all.items c.len.result _ go c.in_err-i.field-0.0 c.in_ok-all.ensures (omega (arith, c.len.ensures, c.in_ok-all.all.ok)) c.in_err-i.ensures.none.0 c.in_err-i.ensures.none.1)

pub returns-clause-taken : goal.returns-clause-taken
returns-clause-taken c go =
    set_taken _ c.args.at c.in_ok-all.all.items c.len.result c.in_ok-i.i c.index.result.now c.in_ok-copied.field-0 _ _ go
    c.in_ok-all.ensures (omega (arith, c.len.ensures, c.in_ok-all.all.ok)) c.in_ok-i.ensures.taken.0 c.index.ensures c.in_ok-copied.ensures c.in_ok-i.ensures.taken.1
