-- Proves what is asked of `latest`.
use Rattle.std.proofs.Common.{◌∙◌, sym, arith, ◌-◌}
use Rattle.eval_scopes.proofs.ContextLemmas.{last_here, last_before}
use Rattle.eval_scopes.proofs.context.latest.Goals as goal

pub returns-then-gives : goal.returns-then-gives
returns-then-gives c =
    let n = c.loop-n.n in
    sym (last_here c.args.plain c.args.defs.now c.args.name.now n (n - 1) c.index-defs-n.result (omega (arith, c.loop-n-test.true)) (omega (arith, c.loop-n-test.true, c.loop-n.invariant.0)) c.index-defs-n.is (sym c.gives.ensures ∙ c.if-gives.true)) ∙ c.loop-n.invariant.1

pub loop-n-preserved : goal.loop-n-preserved
loop-n-preserved c =
    let n = c.loop-n.n in
    (omega (arith, c.loop-n.invariant.0), sym (last_before c.args.plain c.args.defs.now c.args.name.now n (n - 1) c.index-defs-n.result (omega (arith, c.loop-n-test.true)) (omega (arith, c.loop-n-test.true, c.loop-n.invariant.0)) c.index-defs-n.is (sym c.gives.ensures ∙ c.if-gives.false)) ∙ c.loop-n.invariant.1)
