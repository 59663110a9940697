-- Statements of which each that jumps, or in which a label is, ends its list or is followed by a label ("A PlusCal User's Manual", section 3.7, labels).
use Rattle.std.specs.Prelude.{◌≡◌, true, ◌||◌}
use Rattle.pcal_tree.specs.Algorithm.{Statement, branch, either, with, while, Statements, done, then, mark, Branches, no_branches, or}
use Rattle.action_builder.specs.Settled.{jumps, jumps_some}
use Rattle.action_builder.specs.laws.Settling.{Stops}

-- before a rest
abbrev mutual
  pub JumpEnds : Statement → Statements → Type 0
  JumpEnds (branch e a b) rest = JumpsEnd a × JumpsEnd b × ((jumps a || jumps b) ≡ true → Stops rest)
  JumpEnds (either bs) rest = AllJumpsEnd bs × (jumps_some bs ≡ true → Stops rest)
  JumpEnds (with bs b) rest = JumpsEnd b × (jumps b ≡ true → Stops rest)
  JumpEnds (while e b) rest = JumpsEnd b
  JumpEnds _ rest = Unit {0}

  pub JumpsEnd : Statements → Type 0
  JumpsEnd done = Unit {0}
  JumpsEnd (then at st rest) = JumpEnds st rest × JumpsEnd rest
  JumpsEnd (mark l k rest) = JumpsEnd rest

  pub AllJumpsEnd : Branches → Type 0
  AllJumpsEnd no_branches = Unit {0}
  AllJumpsEnd (or b bs) = JumpsEnd b × AllJumpsEnd bs
