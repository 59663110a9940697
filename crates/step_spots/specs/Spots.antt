-- The labels of a routine in the order of the text, each with what a step from it begins with ("A PlusCal User's Manual", section 3.7, labels).
use Rattle.std.specs.Prelude.{List, [], ◌∷◌, ◌++◌, cond, bytes_eq, Option, Some, None}
use Rattle.tla_token.specs.declared.place.Place.{Place}
use Rattle.tla_tree.specs.Tree.{Word, Name}
use Rattle.pcal_tree.specs.Algorithm.{nowhere, Statement, branch, either, with, while, Statements, done, then, mark, Branches, no_branches, or, Routine}
use Rattle.pcal_tree.specs.Run.{unlabelled, label_of}
use Rattle.pcal_tree.specs.StepStart.{Begin}

pub record Spot : Type 0 where
  pub name : Name
  pub begins : Begin

-- here: the label at which the statement or list is; x: the exit, as where a step begins
abbrev mutual
  pub spots_in : Word → Statement → Word → List Spot
  spots_in here (branch e a b) x = spots unlabelled a x ++ spots unlabelled b x
  spots_in here (either bs) x = spots_some bs x
  spots_in here (with bs b) x = spots unlabelled b x
  spots_in here (while e b) x = spots unlabelled b here
  spots_in here _ x = []

  pub spots : Word → Statements → Word → List Spot
  spots here done x = []
  spots here (then at st rest) x = spots_in here st (label_of rest x) ++ spots unlabelled rest x
  spots here (mark l k rest) x = record { name = l; begins = record { items = rest; exit = x } } ∷ spots l.word rest x

  pub spots_some : Branches → Word → List Spot
  spots_some no_branches x = []
  spots_some (or b bs) x = spots unlabelled b x ++ spots_some bs x

abbrev pub routine_spots : Routine → List Spot
routine_spots u = spots unlabelled u.body u.exit

-- those that the first of a list gives
abbrev pub first_spots : Word → Statements → Word → List Spot
first_spots here done x = []
first_spots here (then at st rest) x = spots_in here st (label_of rest x)
first_spots here (mark l k rest) x = record { name = l; begins = record { items = rest; exit = x } } ∷ []

-- the first that has a name
abbrev pub spot_named : List Spot → Word → Option Spot
spot_named [] l = None
spot_named (s ∷ ss) l = cond (bytes_eq l s.name.word) (Some s) (spot_named ss l)

abbrev pub place_of : Option Spot → Place
place_of None = nowhere
place_of (Some s) = s.name.place
