-- Statements in which no `with` is one that keeps the old stack ("A PlusCal User's Manual", section 3.4, procedures: a call that is one statement with a `return`).
use Rattle.std.specs.Prelude.{◌≡◌, false}
use Rattle.pcal_tree.specs.Algorithm.{Statement, branch, either, with, while, Statements, done, then, mark, Branches, no_branches, or}
use Rattle.action_builder.specs.Written.{is_old}

-- no `with` binds the name of the old stack alone
abbrev mutual
  pub NoOldOne : Statement → Type 0
  NoOldOne (branch e a b) = NoOld a × NoOld b
  NoOldOne (either bs) = NoOldSome bs
  NoOldOne (with bs b) = (is_old bs ≡ false) × NoOld b
  NoOldOne (while e b) = NoOld b
  NoOldOne _ = Unit {0}

  pub NoOld : Statements → Type 0
  NoOld done = Unit {0}
  NoOld (then at st rest) = NoOldOne st × NoOld rest
  NoOld (mark l k rest) = NoOld rest

  pub NoOldSome : Branches → Type 0
  NoOldSome no_branches = Unit {0}
  NoOldSome (or b bs) = NoOld b × NoOldSome bs
