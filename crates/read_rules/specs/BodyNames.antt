-- The names that statements use, statement by statement, without the paths to them.
use Rattle.std.specs.Prelude.{List, [], ◌++◌}
use Rattle.tla_tree.specs.Tree.{Word, words}
use Rattle.pcal_tree.specs.Algorithm.{Name, Statement, assign, await, print, assert, skip, branch, either, with, while, goto, macro, call, return, Statements, done, then, mark, Branches, no_branches, or}
use Rattle.pcal_tree.specs.BoundNames.{names_of_binds}
use Rattle.pcal_tree.specs.Reads.{used, used_by_all, used_by_assignments, used_by_binds}

-- where the names xs are bound
abbrev mutual
  pub names_in_one : Statement → List Word → List Name
  names_in_one (assign ms) xs = used_by_assignments ms xs
  names_in_one (await e) xs = used e xs
  names_in_one (print e) xs = used e xs
  names_in_one (assert e) xs = used e xs
  names_in_one skip xs = []
  names_in_one (branch e a b) xs = used e xs ++ (names_in a xs ++ names_in b xs)
  names_in_one (either bs) xs = names_in_some bs xs
  names_in_one (with bs b) xs = used_by_binds bs xs ++ names_in b (words (names_of_binds bs) ++ xs)
  names_in_one (while e b) xs = used e xs ++ names_in b xs
  names_in_one (goto n) xs = []
  names_in_one (macro m ts) xs = used_by_all ts xs
  names_in_one (call q ts) xs = used_by_all ts xs
  names_in_one return xs = []

  pub names_in : Statements → List Word → List Name
  names_in done xs = []
  names_in (then at st rest) xs = names_in_one st xs ++ names_in rest xs
  names_in (mark n k rest) xs = names_in rest xs

  pub names_in_some : Branches → List Word → List Name
  names_in_some no_branches xs = []
  names_in_some (or b bs) xs = names_in b xs ++ names_in_some bs xs
