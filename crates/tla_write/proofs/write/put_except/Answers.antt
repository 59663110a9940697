-- Proves what is asked of `put_except`.
use Rattle.std.proofs.Common.{arith}
use Rattle.tla_write.specs.Writing.{shown}
use Rattle.tla_pool.specs.FormOf.{slots_of}
use Rattle.tla_write.proofs.WritingLemmas.{shown_append, except_shown}
use Rattle.tla_write.proofs.write.put_except.Goals as goal

pub returns : goal.returns
returns c = λ xs h ps. rw c.in_ok-extend_from_slice.ensures.items (simp shown_append (rw (c.in_ok-put_slots.ensures xs h ps, c.in_ok-push.ensures.items)
    (simp shown_append (except_shown (slots_of c.args.slots.now) xs (omega (arith, h, c.requires)) (shown xs c.args.plan.now.items ps)))))
