-- The names on the paths through statements are those of the statements, one after another.
use Rattle.std.proofs.Common.{◌≡◌, List, [], ◌∷◌, ◌++◌, Bool, true, false, Some, refl, ap, ◌∙◌, map}
use Rattle.std.proofs.lemmas.List.{map-append, append-nil}
use Rattle.tla_token.specs.declared.place.Place.{Place}
use Rattle.tla_tree.specs.Tree.{Word, words}
use Rattle.pcal_tree.specs.Algorithm.{Name, Statement, assign, await, print, assert, skip, branch, either, with, while, goto, macro, call, return, Statements, done, then, mark, Branches, no_branches, or}
use Rattle.pcal_tree.specs.BoundNames.{names_of_binds}
use Rattle.pcal_tree.specs.Paths.{assigned, Path, after_one}
use Rattle.pcal_tree.specs.Reads.{used, used_by_all, used_by_assignments, used_by_binds}
use Rattle.pcal_tree.specs.Spots.{Spot, after_path, Further, spots_of_one, spots, spots_of_some, used_in_body}
use Rattle.read_rules.specs.BodyNames.{names_in_one, names_in, names_in_some}

abbrev Names : List Spot → List Name
Names ss = map (λ s. s.name) ss

abbrev Nothing : Further
Nothing at st = []

same_names : (p : Path) (ns : List Name) → Names (after_path p ns) ≡ ns
same_names p [] = refl
same_names p (n ∷ ns) = ap (λ (ms : List Name). n ∷ ms) (same_names p ns)

both : (ss rs : List Spot) (ns ms : List Name) → Names ss ≡ ns → Names rs ≡ ms → Names (ss ++ rs) ≡ ns ++ ms
both ss rs ns ms e h = map-append (λ s. s.name) ss rs ∙ (λ i. e i ++ h i)

mutual
  one_names : (l : Bool) (p : Path) (at : Place) (st : Statement) (xs : List Word) → Names (spots_of_one Nothing l p at st xs) ≡ names_in_one st xs
  one_names l p at (assign ms) xs = same_names p (used_by_assignments ms xs)
  one_names l p at (await e) xs = same_names p (used e xs)
  one_names l p at (print e) xs = same_names p (used e xs)
  one_names l p at (assert e) xs = same_names p (used e xs)
  one_names l p at skip xs = refl
  one_names l p at (branch e a b) xs =
      both (after_path p (used e xs)) (spots Nothing false p a xs ++ spots Nothing false p b xs) (used e xs) (names_in a xs ++ names_in b xs) (same_names p (used e xs))
      (both (spots Nothing false p a xs) (spots Nothing false p b xs) (names_in a xs) (names_in b xs) (all_names false p a xs) (all_names false p b xs))
  one_names l p at (either bs) xs = some_names p bs xs
  one_names l p at (with bs b) xs =
      both (after_path p (used_by_binds bs xs)) (spots Nothing false p b (words (names_of_binds bs) ++ xs)) (used_by_binds bs xs) (names_in b (words (names_of_binds bs) ++ xs)) (same_names p (used_by_binds bs xs))
      (all_names false p b (words (names_of_binds bs) ++ xs))
  one_names l p at (while e b) xs =
      let round = after_one assigned (while e b) l p in
      both (after_path round (used e xs)) (spots Nothing false round b xs) (used e xs) (names_in b xs) (same_names round (used e xs)) (all_names false round b xs)
  one_names l p at (goto n) xs = refl
  one_names l p at (macro m ts) xs = same_names p (used_by_all ts xs)
  one_names l p at (call q ts) xs = same_names p (used_by_all ts xs ++ []) ∙ append-nil (used_by_all ts xs)
  one_names l p at return xs = refl

  all_names : (l : Bool) (p : Path) (b : Statements) (xs : List Word) → Names (spots Nothing l p b xs) ≡ names_in b xs
  all_names l p done xs = refl
  all_names l p (then at st rest) xs =
      both (spots_of_one Nothing l p at.first st xs) (spots Nothing false (after_one assigned st l p) rest xs) (names_in_one st xs) (names_in rest xs) (one_names l p at.first st xs)
      (all_names false (after_one assigned st l p) rest xs)
  all_names l p (mark n k rest) xs = all_names true (Some []) rest xs

  some_names : (p : Path) (bs : Branches) (xs : List Word) → Names (spots_of_some Nothing p bs xs) ≡ names_in_some bs xs
  some_names p no_branches xs = refl
  some_names p (or b bs) xs =
      both (spots Nothing false p b xs) (spots_of_some Nothing p bs xs) (names_in b xs) (names_in_some bs xs) (all_names false p b xs) (some_names p bs xs)

pub body_names : (b : Statements) → used_in_body b ≡ names_in b []
body_names b = all_names false (Some []) b []
