-- Proves what is asked of `set`.
use Rattle.value_forms.proofs.StopLaws.{answers_tell}
use Rattle.value_forms.proofs.made.set.Goals as goal

pub returns : goal.returns
returns c = answers_tell c.set_of.result _ c.set_of.ensures
