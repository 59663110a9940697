-- What is told of a path after `!` that was read.
use Rattle.std.specs.Prelude.{◌≡◌, Bool, ℕ, ◌<◌, ◌++◌, List, length, map}
use Rattle.tla_token.specs.declared.place.Place.{Place}
use Rattle.tla_tree.specs.Tree.{Tree, PathStep}
use Rattle.tla_tree.specs.TreeOf.{trees_from}
use Rattle.tla_tree.specs.Pool.{at, AllBelow}
use Rattle.tla_tree.specs.Lexical as tk
use Rattle.tla_tree.specs.Spelling.{Phrases, Path, steps, subscript, subscripts}
use Rattle.tla_tree.specs.Reader.{Reader, Readers, ◌>>=◌, gives, a_mark}
use Rattle.expr_nodes.specs.ShapeOf.{in_all, in_path}

-- behind `[`: `a, b]`
abbrev pub indexed : Readers → ℕ → Reader (Phrases × Place)
indexed d e = d.phrases e >>= λ xs. a_mark e tk.close_square >>= λ q. gives (xs, q)

-- the number has the tree of the subscript, in which so many forms are open
pub record IsSubscript (linked : Bool) (ts : List Tree) (i n : ℕ) (xs : Phrases) : Type 0 where
  pub below : i < length ts
  pub tree : at ts i ≡ subscript xs
  pub nesting : in_all linked xs ≡ n

-- these steps, and the numbers of the subscripts
pub record IsPath (linked : Bool) (ts : List Tree) (ss : List PathStep) (is : List ℕ) (n : ℕ) (path : Path) : Type 0 where
  pub below : AllBelow (length ts) is
  pub steps : steps path ≡ ss
  pub subscripts : (us : List Tree) → subscripts path (trees_from us) ≡ trees_from (map (at ts) is ++ us)
  pub nesting : in_path linked path ≡ n
