-- Proves the law `sound_states_have_no_first_trouble`.
use Rattle.pcal_tree.proofs.TroubleLaws.{sound_quiet, quiet_sound}
use Rattle.pcal_tree.proofs.laws.sound_states_have_no_first_trouble.Goals as goal

pub returns-clause-sound : goal.returns-clause-sound
returns-clause-sound c = sound_quiet

pub returns-clause-quiet : goal.returns-clause-quiet
returns-clause-quiet c = quiet_sound
