-- Proves what is asked of `put_listed`.
use Rattle.std.proofs.Common.{arith}
use Rattle.tla_write.specs.Writing.{shown}
use Rattle.tla_write.proofs.WritingLemmas.{shown_append, listed_next}
use Rattle.tla_write.proofs.write.put_listed.Goals as goal

pub loop-i-preserved : goal.loop-i-preserved
loop-i-preserved c = (
  omega (arith, c.loop-i.invariant.0),
  λ xs h ps. rw (c.in_ok-push.ensures.items, c.in_ok-put_comma_if.ensures) (simp shown_append (rw (c.loop-i.invariant.1 xs h ps) (listed_next xs c.args.n c.loop-i.i h (omega (arith, c.loop-i-test.true)) c.loop-i.invariant.0 (shown xs c.args.plan.now.items ps)))),
)
