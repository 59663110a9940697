-- Statements with labels put in where it was decided.
use Rattle.std.specs.Prelude.{List, [], ◌∷◌, Bool, false}
use Rattle.pcal_tree.specs.Algorithm.{Statement, branch, either, while, Statements, done, then, mark, Branches, no_branches, or}
use Rattle.pcal_tree.specs.Labelled.{Supply, names_after, labelled_if}

-- what was decided of the statements that come, and the names that are left
pub record Plan : Type 0 where
  pub wanted : List Bool
  pub names : Supply

abbrev pub next_wanted : List Bool → Bool
next_wanted [] = false
next_wanted (b ∷ bs) = b

abbrev pub wanted_then : List Bool → List Bool
wanted_then [] = []
wanted_then (b ∷ bs) = bs

abbrev pub is_wanted : Plan → Bool
is_wanted k = next_wanted k.wanted

-- behind the label of a statement, or behind none
abbrev pub passed : Plan → Plan
passed k = record { wanted = wanted_then k.wanted; names = names_after (is_wanted k) k.names }

abbrev mutual
  pub past_inside : Plan → Statement → Plan
  past_inside k (branch e a b) = past (past k a) b
  past_inside k (either bs) = past_some k bs
  past_inside k (while e b) = past k b
  past_inside k st = k

  -- what is left of it behind statements
  pub past : Plan → Statements → Plan
  past k done = k
  past k (mark n m rest) = past k rest
  past k (then at st rest) = past (past_inside (passed k) st) rest

  pub past_some : Plan → Branches → Plan
  past_some k no_branches = k
  past_some k (or b bs) = past_some (past k b) bs

abbrev mutual
  pub placed_inside : Plan → Statement → Statement
  placed_inside k (branch e a b) = branch e (placed k a) (placed (past k a) b)
  placed_inside k (either bs) = either (placed_some k bs)
  placed_inside k (while e b) = while e (placed k b)
  placed_inside k st = st

  pub placed : Plan → Statements → Statements
  placed k done = done
  placed k (mark n m rest) = mark n m (placed k rest)
  placed k (then at st rest) = labelled_if (is_wanted k) k.names at.first (then at (placed_inside (passed k) st) (placed (past_inside (passed k) st) rest))

  pub placed_some : Plan → Branches → Branches
  placed_some k no_branches = no_branches
  placed_some k (or b bs) = or (placed k b) (placed_some (past k b) bs)
