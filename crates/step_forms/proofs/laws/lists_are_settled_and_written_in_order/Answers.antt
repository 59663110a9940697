-- Proves the law `lists_are_settled_and_written_in_order`.
use Rattle.step_forms.proofs.LeftLaws.{settled_left, left_past}
use Rattle.step_forms.proofs.WrittenLaws.{still_unmarked, assigned_followed, write_followed}
use Rattle.step_forms.proofs.laws.lists_are_settled_and_written_in_order.Goals as goal

pub returns-clause-settled : goal.returns-clause-settled
returns-clause-settled c = settled_left

pub returns-clause-past : goal.returns-clause-past
returns-clause-past c = left_past

pub returns-clause-assigned : goal.returns-clause-assigned
returns-clause-assigned c = λ a b h. assigned_followed a b (still_unmarked a h)

pub returns-clause-written : goal.returns-clause-written
returns-clause-written c = λ vs A a b h. write_followed vs A a b (still_unmarked a h)
