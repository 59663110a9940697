-- Proves what is asked of `picked`.
use Rattle.std.proofs.Common.{arith, sym, ◌∙◌, suc, ◌-◌, ◌≡◌, ap, Some}
use Rattle.eval_scopes.proofs.ScopeLoops.{picked_is}
use Rattle.eval_scopes.proofs.scope.picked.Goals as goal

pub returns : goal.returns
returns c =
    let e : c.args.next ≡ suc (c.args.next - 1) = omega arith in
    ap Some c.index-members-next.is ∙ sym (picked_is c.args.members.now c.args.next (c.args.next - 1) c.index-members-next.result e (omega arith))
