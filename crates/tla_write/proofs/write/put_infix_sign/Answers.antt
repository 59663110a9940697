-- Proves what is asked of `put_infix_sign`.
use Rattle.std.proofs.Common.{sym, ap}
use Rattle.tla_tree.specs.declared.op.Op.{Op}
use Rattle.tla_tree.specs.Written.{infix_sign}
use Rattle.tla_write.specs.Writing.{shown}
use Rattle.tla_write.proofs.WritingLemmas.{shown_append, infix_other}
use Rattle.tla_write.proofs.write.put_infix_sign.Goals as goal

pub returns-in_ok-push-in-Range : goal.returns-in_ok-push-in-Range
returns-in_ok-push-in-Range c = λ xs ps. rw c.in_ok-push-in-Range.ensures.items (simp shown_append (ap (λ (o : Op). infix_sign o (shown xs c.args.plan.now.items ps)) (sym c.in-Range.is)))

pub returns-in_ok-put_spaced-in_default : goal.returns-in_ok-put_spaced-in_default
returns-in_ok-put_spaced-in_default c = λ xs ps. rw c.in_ok-put_spaced-in_default.ensures (simp shown_append (infix_other c.args.op c.in_default.not-Range (shown xs c.args.plan.now.items ps)))
