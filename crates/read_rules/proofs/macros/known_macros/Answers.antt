-- Proves what is known of macros.
use Rattle.read_rules.proofs.KnownLaws.{knows_none}
use Rattle.read_rules.proofs.macros.known_macros.Goals as goal

pub returns-in-Ok : goal.returns-in-Ok
returns-in-Ok c = λ ps a. c.in-Ok.ensures ps (knows_none _ ps c.new.ensures a)
