-- Proves what is seen in a macro's body.
use Rattle.read_rules.proofs.macros.seen_once.Goals as goal

pub returns-in-Ok : goal.returns-in-Ok
returns-in-Ok c = λ ms ps k. c.in-Ok.ensures _ _ ms ps c.new-ways.ensures.unreached c.new-ways.ensures.reached k
