-- Where names are used on the paths through statements ("A PlusCal User's Manual", sections 3.2, statements, and 3.7, labels).
use Rattle.std.specs.Prelude.{List, [], ◌++◌, Bool, true, false, map, Some}
use Rattle.tla_token.specs.declared.place.Place.{Place}
use Rattle.tla_tree.specs.Tree.{Word, words}
use Rattle.pcal_tree.specs.Algorithm.{Name, Statement, assign, await, print, assert, skip, branch, either, with, while, goto, macro, call, return, Statements, done, then, mark, Branches, no_branches, or}
use Rattle.pcal_tree.specs.BoundNames.{names_of_binds}
use Rattle.pcal_tree.specs.Paths.{assigned, Path, after_one}
use Rattle.pcal_tree.specs.Reads.{used, used_by_all, used_by_assignments, used_by_binds}

-- a name that is used, and what the paths to it have assigned
pub record Spot : Type 0 where
  pub name : Name
  pub path : Path

abbrev pub after_path : Path → List Name → List Spot
after_path p ns = map (λ n. record { name = n; path = p }) ns

-- what a statement at a place uses besides the names of its expressions
abbrev pub Further : Type 0
Further = Place → Statement → List Name

-- All that are used, statement by statement, where the names xs are bound; true at a label. A statement uses names before it assigns. The test of a
-- `while` is on the way round again too.
abbrev mutual
  pub spots_of_one : Further → Bool → Path → Place → Statement → List Word → List Spot
  spots_of_one F l p at (assign ms) xs = after_path p (used_by_assignments ms xs)
  spots_of_one F l p at (await e) xs = after_path p (used e xs)
  spots_of_one F l p at (print e) xs = after_path p (used e xs)
  spots_of_one F l p at (assert e) xs = after_path p (used e xs)
  spots_of_one F l p at skip xs = []
  spots_of_one F l p at (branch e a b) xs = after_path p (used e xs) ++ (spots F false p a xs ++ spots F false p b xs)
  spots_of_one F l p at (either bs) xs = spots_of_some F p bs xs
  spots_of_one F l p at (with bs b) xs = after_path p (used_by_binds bs xs) ++ spots F false p b (words (names_of_binds bs) ++ xs)
  spots_of_one F l p at (while e b) xs =
      let round = after_one assigned (while e b) l p in
      after_path round (used e xs) ++ spots F false round b xs
  spots_of_one F l p at (goto n) xs = after_path p (F at (goto n))
  spots_of_one F l p at (macro m ts) xs = after_path p (used_by_all ts xs)
  spots_of_one F l p at (call q ts) xs = after_path p (used_by_all ts xs ++ F at (call q ts))
  spots_of_one F l p at return xs = []

  pub spots : Further → Bool → Path → Statements → List Word → List Spot
  spots F l p done xs = []
  spots F l p (then at st rest) xs = spots_of_one F l p at.first st xs ++ spots F false (after_one assigned st l p) rest xs
  spots F l p (mark n k rest) xs = spots F true (Some []) rest xs

  pub spots_of_some : Further → Path → Branches → List Word → List Spot
  spots_of_some F p no_branches xs = []
  spots_of_some F p (or b bs) xs = spots F false p b xs ++ spots_of_some F p bs xs

-- from the beginning of a body
abbrev pub spots_in : Further → Statements → List Word → List Spot
spots_in F b xs = spots F false (Some []) b xs

-- the names of the text alone
abbrev pub used_in_body : Statements → List Name
used_in_body b = map (λ s. s.name) (spots_in (λ at st. []) b [])
