-- What is told of expressions that were read for those who read algorithms: the trees of what the grammar's reader reads.
use Rattle.std.specs.Prelude.{◌≡◌, ℕ, ◌*◌, ◌<◌, ◌≤◌, List, length, Some, Result, Vec}
use Rattle.std.specs.declared.alloc.Global.{Global}
use Rattle.tla_token.specs.declared.token.Tokens.{Tokens}
use Rattle.tla_tree.specs.Tree.{Tree}
use Rattle.tla_tree.specs.Pool.{at, trees_at, AllBelow}
use Rattle.tla_tree.specs.Spelling.{Phrase, Phrases, tree_of, trees_of}
use Rattle.tla_tree.specs.Reader.{free, readers}
use Rattle.expr_nodes.specs.declared.cursor.Halt.{Halt}
use Rattle.expr_nodes.specs.ReadIn.{Told}
use Rattle.expr_nodes.specs.Ahead.{ahead}

-- the number has the tree of the phrase
pub record HasTree (ts : List Tree) (i : ℕ) (a : Phrase) : Type 0 where
  pub below : i < length ts
  pub tree : at ts i ≡ tree_of a

-- these numbers have the trees of the phrases
pub record HaveTrees (ts : List Tree) (is : List ℕ) (xs : Phrases) : Type 0 where
  pub below : AllBelow (length ts) is
  pub trees : trees_at ts is ≡ trees_of xs

-- with at least four steps for each token that is left, of which no more are needed
abbrev pub Enough : Tokens → ℕ → ℕ → Type 0
Enough v i n = 4 * length (ahead v i) ≤ n

-- an expression from a token on, where so many forms may be open, and the token behind it; or where it is refused
abbrev pub ReadsTree : Tokens → List Tree → ℕ → ℕ → Result (ℕ × ℕ) Halt → Type 0
ReadsTree v ts i b r = (n : ℕ) → Enough v i n → Told (λ (x : ℕ × ℕ) a. HasTree ts x.0 a) (λ x. ahead v x.1) r ((readers n (Some b)).expr 0 free (ahead v i))

-- expressions with commas between them, likewise
abbrev pub ReadsTrees : Tokens → List Tree → ℕ → ℕ → Result (Vec ℕ Global × ℕ) Halt → Type 0
ReadsTrees v ts i b r = (n : ℕ) → Enough v i n → Told (λ (x : Vec ℕ Global × ℕ) xs. HaveTrees ts x.0.items xs) (λ x. ahead v x.1) r ((readers n (Some b)).phrases 0 (ahead v i))
