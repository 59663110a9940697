-- Proves what is asked of `is_ascending`.
use Rattle.std.proofs.Common.{arith, ◌+◌, ◌-◌, length}
use Rattle.eval_visits.proofs.KeyLemmas.{ends_ascending, ascending_from}
use Rattle.eval_visits.proofs.keys.is_ascending.Goals as goal

pub loop-i-init : goal.loop-i-init
loop-i-init c = (omega arith, ends_ascending c.args.values.now (length c.args.values.now - 1) (omega arith))

pub loop-i-preserved : goal.loop-i-preserved
loop-i-preserved c =
    let xs = c.args.values.now in let i = c.loop-i.i in
    (omega (arith, c.loop-i.invariant.0), ascending_from xs (i - 2) ((i - 1) - 1) (omega arith) (c.rises.ensures c.if-not-rises.false (ascending_from xs (i - 1) ((i - 2) + 1) (omega (arith, c.loop-i-test.true)) c.loop-i.invariant.1)))

pub returns : goal.returns
returns c = λ h. ascending_from c.args.values.now (c.loop-i.i - 1) 0 (omega (arith, c.loop-i-test.false)) c.loop-i.invariant.1
