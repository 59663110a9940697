-- Proves what is asked of `put_operator`.
use Rattle.tla_write.specs.Writing.{shown}
use Rattle.tla_write.proofs.WritingLemmas.{shown_append, one_operand, two_operands}
use Rattle.tla_write.proofs.write.put_operator.Goals as goal

pub returns-in_ok-put_prefix_sign : goal.returns-in_ok-put_prefix_sign
returns-in_ok-put_prefix_sign c = λ xs h ps. rw (c.in_ok-put_prefix_sign.ensures xs ps, c.in_ok-push.ensures.items) (simp shown_append (one_operand c.args.op xs c.args.n h c.if-n-eq1.true (shown xs c.args.plan.now.items ps)))

pub returns-in_ok-push-3 : goal.returns-in_ok-push-3
returns-in_ok-push-3 c = λ xs h ps. rw c.in_ok-push-3.ensures.items (simp shown_append (rw (c.in_ok-put_infix_sign.ensures xs ps, c.in_ok-push-2.ensures.items) (simp shown_append (two_operands c.args.op xs c.args.n h c.requires c.if-n-eq1.false (shown xs c.args.plan.now.items ps)))))
