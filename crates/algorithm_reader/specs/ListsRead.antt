-- Lists of statements and branches in memory, before the rest of their list.
use Rattle.std.specs.Prelude.{◌≡◌, ◌≤◌, List, [], ◌∷◌, length, Vec}
use Rattle.std.specs.declared.alloc.Global.{Global}
use Rattle.tla_tree.specs.Tree.{Tree}
use Rattle.pcal_tree.specs.declared.algorithm.Stmt.{Stmt}
use Rattle.pcal_tree.specs.Algorithm.{Statements, Branches}
use Rattle.pcal_tree.specs.Algorithm as tree
use Rattle.pcal_tree.specs.InMemory.{stmt_at, statements_at, past_statements}

-- labels and statements before the rest of their list
abbrev pub in_list : List Tree → List Stmt → Statements → Statements
in_list ts [] rest = rest
in_list ts (s ∷ ss) rest = stmt_at ts s (in_list ts ss rest)

abbrev pub in_branches : List Tree → List (Vec Stmt Global) → Branches → Branches
in_branches ts [] rest = rest
in_branches ts (b ∷ bs) rest = tree.or (statements_at ts b.items) (in_branches ts bs rest)

-- over the trees of a pool they stand for this, whatever the rest is
pub record ListStands (ts : List Tree) (ss : List Stmt) (f : Statements → Statements) : Type 0 where
  pub below : past_statements ss ≤ length ts
  pub tree : (rest : Statements) → in_list ts ss rest ≡ f rest
