-- Proves which action is found.
use Rattle.std.proofs.Common.{◌∙◌, ◌-◌, sym, arith}
use Rattle.action_truth.proofs.TitleLaws.{titled_here, titled_before}
use Rattle.action_truth.proofs.asked.scanned.Goals as goal

pub returns-then-is_named-clause-last : goal.returns-then-is_named-clause-last
returns-then-is_named-clause-last c =
    let n = c.loop-n.n in
    let here = titled_here c.args.actions.now c.args.title.now n (n - 1) c.index-actions-n.result (omega (arith, c.loop-n-test.true)) (omega (arith, c.loop-n-test.true, c.loop-n.invariant.0, c.requires)) c.index-actions-n.is (sym c.is_named.ensures ∙ c.if-is_named.true) in
    omega (arith, here, c.loop-n.invariant.1, c.loop-n-test.true)

pub loop-n-preserved : goal.loop-n-preserved
loop-n-preserved c =
    let n = c.loop-n.n in (
      omega (arith, c.loop-n.invariant.0),
      sym (titled_before c.args.actions.now c.args.title.now n (n - 1) c.index-actions-n.result (omega (arith, c.loop-n-test.true)) (omega (arith, c.loop-n-test.true, c.loop-n.invariant.0, c.requires)) c.index-actions-n.is (sym c.is_named.ensures ∙ c.if-is_named.false)) ∙ c.loop-n.invariant.1,
    )
