-- Proves what is asked of `put_fields`.
use Rattle.std.proofs.Common.{arith}
use Rattle.tla_write.specs.Writing.{shown, fixed_token}
use Rattle.tla_tree.specs.Written.{spaced}
use Rattle.tla_write.proofs.WritingLemmas.{shown_append, fields_next}
use Rattle.tla_write.proofs.write.put_fields.Goals as goal

pub loop-i-preserved : goal.loop-i-preserved
loop-i-preserved c = (
  omega (arith, c.loop-i.invariant.0),
  λ xs h ps. rw (c.in_ok-extend_from_slice.ensures.items, c.in_ok-put_comma_if.ensures)
      (simp shown_append (rw (c.loop-i.invariant.1 xs h ps) (rw c.index-names-i.is (fields_next (spaced (fixed_token c.args.sign)) c.args.names.now xs c.loop-i.i c.index-names-i.result h (omega (arith, c.loop-i-test.true)) c.loop-i.invariant.0 (shown xs c.args.plan.now.items ps))))),
)
