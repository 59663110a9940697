-- Tokens in memory that are those of a file's algorithm.
use Rattle.std.specs.Prelude.{◌≡◌, [], Some}
use Rattle.tla_token.specs.declared.token.Tokens.{Tokens}
use Rattle.tla_token.specs.Places.{place_at}
use Rattle.tla_token.specs.TokensSeen.{tokens_seen}
use Rattle.tla_token.specs.AlgorithmOffences.{number_offences}
use Rattle.module_tree.specs.TextFront.{Text}
use Rattle.module_tree.specs.AlgorithmText.{AlgorithmText, algorithm_in, algorithm_tokens}

-- they are, with the place of its end, and none of its numbers is too big
pub record AreOfAlgorithm (x : Text) (v : Tokens) : Type 0 where
  pub text : AlgorithmText
  pub is_text : algorithm_in x ≡ Some text
  pub tokens : tokens_seen v ≡ algorithm_tokens x text
  pub ends : v.end ≡ place_at x text.rest.to
  pub numbers : number_offences (algorithm_tokens x text) ≡ []
