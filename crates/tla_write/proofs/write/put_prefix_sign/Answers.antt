-- Proves what is asked of `put_prefix_sign`.
use Rattle.std.proofs.Common.{sym, ap}
use Rattle.tla_tree.specs.declared.op.Op.{Op}
use Rattle.tla_tree.specs.Written.{prefix_sign}
use Rattle.tla_write.specs.Writing.{shown}
use Rattle.tla_write.proofs.WritingLemmas.{shown_append, prefix_other}
use Rattle.tla_write.proofs.write.put_prefix_sign.Goals as goal

pub returns-in_ok-push-in-Negate : goal.returns-in_ok-push-in-Negate
returns-in_ok-push-in-Negate c = λ xs ps. rw c.in_ok-push-in-Negate.ensures.items (simp shown_append (ap (λ (o : Op). prefix_sign o (shown xs c.args.plan.now.items ps)) (sym c.in-Negate.is)))

pub returns-in_ok-push-in-Not : goal.returns-in_ok-push-in-Not
returns-in_ok-push-in-Not c = λ xs ps. rw c.in_ok-push-in-Not.ensures.items (simp shown_append (ap (λ (o : Op). prefix_sign o (shown xs c.args.plan.now.items ps)) (sym c.in-Not.is)))

pub returns-in_ok-push-in_default-2 : goal.returns-in_ok-push-in_default-2
returns-in_ok-push-in_default-2 c = λ xs ps. rw (c.in_ok-push-in_default-2.ensures.items, c.in_ok-push-in_default.ensures.items) (simp shown_append (prefix_other c.args.op c.in_default.not-Negate c.in_default.not-Not (shown xs c.args.plan.now.items ps)))
