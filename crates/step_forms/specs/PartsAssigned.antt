-- Statements in which no variable is assigned whole beside another assignment of it ("A PlusCal User's Manual", section 3.2.1, multiple assignment).
use Rattle.action_builder.specs.laws.InParts.{InParts}
use Rattle.pcal_tree.specs.Algorithm.{Statement, assign, branch, either, with, while, Statements, done, then, mark, Branches, no_branches, or}

-- of several assignments to one variable in a statement each is to a part of it
abbrev mutual
  pub InPartsOne : Statement → Type 0
  InPartsOne (assign ms) = InParts ms
  InPartsOne (branch e a b) = AllInParts a × AllInParts b
  InPartsOne (either bs) = SomeInParts bs
  InPartsOne (with bs b) = AllInParts b
  InPartsOne (while e b) = AllInParts b
  InPartsOne _ = Unit {0}

  pub AllInParts : Statements → Type 0
  AllInParts done = Unit {0}
  AllInParts (then at st rest) = InPartsOne st × AllInParts rest
  AllInParts (mark l k rest) = AllInParts rest

  pub SomeInParts : Branches → Type 0
  SomeInParts no_branches = Unit {0}
  SomeInParts (or b bs) = AllInParts b × SomeInParts bs
