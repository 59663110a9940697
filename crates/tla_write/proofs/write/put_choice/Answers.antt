-- Proves what is asked of `put_choice`.
use Rattle.tla_write.specs.Writing.{shown}
use Rattle.tla_write.proofs.WritingLemmas.{shown_append, choice_shown}
use Rattle.tla_write.proofs.write.put_choice.Goals as goal

pub returns : goal.returns
returns c = λ xs h ps. rw (c.in_ok-extend_from_slice.ensures.items) (simp shown_append (choice_shown xs h (shown xs c.args.plan.now.items ps)))
