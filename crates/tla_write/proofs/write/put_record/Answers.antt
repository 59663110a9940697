-- Proves what is asked of `put_record`.
use Rattle.std.proofs.Common.{refl}
use Rattle.tla_write.proofs.WritingLemmas.{shown_append}
use Rattle.tla_write.proofs.write.put_record.Goals as goal

pub returns : goal.returns
returns c = λ xs h ps. rw c.in_ok-push-2.ensures.items (simp shown_append (rw (c.in_ok-put_fields.ensures xs h ps, c.in_ok-push.ensures.items) (simp shown_append refl)))
