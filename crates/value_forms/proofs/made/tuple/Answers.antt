-- Proves what is asked of `tuple`.
use Rattle.value_forms.proofs.StopLaws.{answers_tell}
use Rattle.value_forms.proofs.made.tuple.Goals as goal

pub returns : goal.returns
returns c = answers_tell c.seq_of.result _ c.seq_of.ensures
