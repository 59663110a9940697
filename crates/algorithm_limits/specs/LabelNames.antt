-- The names of the labels of statements, in the order of the text.
use Rattle.std.specs.Prelude.{List, [], ◌∷◌, ◌++◌}
use Rattle.pcal_tree.specs.Algorithm.{Name, Statement, branch, either, with, while, Statements, done, then, mark, Branches, no_branches, or}

abbrev mutual
  pub names_of_one : Statement → List Name
  names_of_one (branch e a b) = label_names a ++ label_names b
  names_of_one (either bs) = names_of_some bs
  names_of_one (with bs b) = label_names b
  names_of_one (while e b) = label_names b
  names_of_one _ = []

  pub label_names : Statements → List Name
  label_names done = []
  label_names (mark n k rest) = n ∷ label_names rest
  label_names (then at st rest) = names_of_one st ++ label_names rest

  pub names_of_some : Branches → List Name
  names_of_some no_branches = []
  names_of_some (or b bs) = label_names b ++ names_of_some bs
