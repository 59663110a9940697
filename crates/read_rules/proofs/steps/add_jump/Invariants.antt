-- What is kept: those that were passed have another name.
use Rattle.std.proofs.Common.{◌≡◌, drop}
use Rattle.read_rules.specs.StepsIn.{jump_words}
use Rattle.read_rules.proofs.steps.add_jump.Given as goal

abbrev pub invariant-loop-i : goal.invariant-loop-i
invariant-loop-i l = (l.list.items ≡ l.fn.list.items) × (jump_words (drop l.i l.jumps) l.name ≡ jump_words l.jumps l.name)
