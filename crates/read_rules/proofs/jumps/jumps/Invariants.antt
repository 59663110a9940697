-- What is kept: what comes behind these makes the whole.
use Rattle.read_rules.proofs.JumpLaws.{MadeJumps}
use Rattle.read_rules.proofs.jumps.jumps.Given as goal

abbrev pub invariant-loop-one : goal.invariant-loop-one
invariant-loop-one l = MadeJumps l.pool l.procedures l.list.items l.one-index
