-- The algorithm that the tokens of a file's algorithm spell.
use Rattle.std.specs.Prelude.{◌≡◌, List, ℕ, Some}
use Rattle.pcal_tree.specs.Algorithm.{Algorithm}
use Rattle.pcal_tree.specs.Grammar.{Syntax, Spells}
use Rattle.module_tree.specs.AlgorithmText.{AlgorithmText, algorithm_in, algorithm_tokens}

-- they spell this tree, in one of the syntaxes
pub record HoldsTree (x : List ℕ) (g : Algorithm) : Type 0 where
  pub text : AlgorithmText
  pub is_text : algorithm_in x ≡ Some text
  pub syntax : Syntax
  pub spelled : Spells syntax (algorithm_tokens x text) g
