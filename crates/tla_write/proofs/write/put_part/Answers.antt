-- Proves what is asked of `put_part`.
use Rattle.std.proofs.Common.{sym}
use Rattle.tla_pool.specs.FormOf.{form_of}
use Rattle.tla_write.specs.Writing.{shown}
use Rattle.tla_write.proofs.WritingLemmas.{shown_append, bracketed_part}
use Rattle.tla_write.proofs.write.put_part.Goals as goal

pub returns-in_ok-push-2 : goal.returns-in_ok-push-2
returns-in_ok-push-2 c = λ xs h ps. rw c.in_ok-push-2.ensures.items (simp shown_append (rw (c.in_ok-put_form.ensures xs h ps, c.in_ok-push.ensures.items) (simp shown_append (bracketed_part (form_of c.args.form.now) xs c.args.operand c.if-operand.true (sym c.if-is_bracketed.ensures) (shown xs c.args.plan.now.items ps)))))
