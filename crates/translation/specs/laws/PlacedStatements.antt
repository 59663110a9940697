-- Statements in which each loop is right after a label, a `return` is only where one may be, and no label is in a `with` ("A PlusCal User's Manual", sections 3.4,
-- procedures, and 3.7, labels).
use Rattle.std.specs.Prelude.{◌≡◌, Bool, true, false}
use Rattle.pcal_tree.specs.Algorithm.{Statement, branch, either, with, while, return, Statements, done, then, mark, Branches, no_branches, or}

-- r: a `return` may be there; w: it is in a `with`, or in a macro; l: a label is right before
abbrev mutual
  pub PlacedOne : Bool → Bool → Bool → Statement → Type 0
  PlacedOne r w l (branch e a b) = Placed r w false a × Placed r w false b
  PlacedOne r w l (either bs) = AllPlaced r w bs
  PlacedOne r w l (with bs b) = Placed r true false b
  PlacedOne r w l (while e b) = (l ≡ true) × Placed r w false b
  PlacedOne r w l return = r ≡ true
  PlacedOne r w l _ = Unit {0}

  pub Placed : Bool → Bool → Bool → Statements → Type 0
  Placed r w l done = Unit {0}
  Placed r w l (then at st rest) = PlacedOne r w l st × Placed r w false rest
  Placed r w l (mark m k rest) = (w ≡ false) × Placed r w true rest

  pub AllPlaced : Bool → Bool → Branches → Type 0
  AllPlaced r w no_branches = Unit {0}
  AllPlaced r w (or b bs) = Placed r w false b × AllPlaced r w bs
