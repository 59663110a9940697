-- Statements of which none assigns a variable beside a part of it ("A PlusCal User's Manual", section 3.2, multiple assignments).
use Rattle.std.specs.Prelude.{◌≡◌, false}
use Rattle.pcal_tree.specs.Algorithm.{Statement, assign, branch, either, with, while, Statements, done, then, mark, Branches, no_branches, or}
use Rattle.pcal_tree.specs.Paths.{clashes}

abbrev mutual
  pub AssignsOnce : Statement → Type 0
  AssignsOnce (assign ms) = clashes ms ≡ false
  AssignsOnce (branch e a b) = AssignOnce a × AssignOnce b
  AssignsOnce (either bs) = AllAssignOnce bs
  AssignsOnce (with bs b) = AssignOnce b
  AssignsOnce (while e b) = AssignOnce b
  AssignsOnce _ = Unit {0}

  -- those inside others too
  pub AssignOnce : Statements → Type 0
  AssignOnce done = Unit {0}
  AssignOnce (then at st rest) = AssignsOnce st × AssignOnce rest
  AssignOnce (mark l k rest) = AssignOnce rest

  pub AllAssignOnce : Branches → Type 0
  AllAssignOnce no_branches = Unit {0}
  AllAssignOnce (or b bs) = AssignOnce b × AllAssignOnce bs
