-- Proves the law.
use Rattle.label_jumps.proofs.PartedLaws.{parted}
use Rattle.label_jumps.proofs.laws.label_rules_are_two_parts.Goals as goal

pub returns : goal.returns
returns c = parted
