-- What the laws of printed algorithms in files speak of: the algorithm of a file that is just a printed text.
use Rattle.std.specs.Prelude.{◌≡◌, ℕ, ◌+◌, [], length, Some}
use Rattle.tla_token.specs.Tokens.{stretch, TokAlgorithm}
use Rattle.tla_token.specs.AlgorithmOffences.{too_many_tokens, algorithm_offences as token_offences}
use Rattle.pcal_tree.specs.Algorithm.{Algorithm}
use Rattle.pcal_tree.specs.Placeless.{placeless}
use Rattle.pcal_tree.specs.Grammar.{Syntax, p_syntax, c_syntax, Spells}
use Rattle.pcal_tree.specs.Printed.{Text, printed}
use Rattle.module_tree.specs.Walk.{walk}
use Rattle.module_tree.specs.FileParts.{module_end, beginnings}
use Rattle.module_tree.specs.FileOffences.{algorithm_offences, offences_of, no_module, no_algorithm, second_algorithms, placements}
use Rattle.module_tree.specs.AlgorithmText.{Stage, past_p, past_c, AlgorithmText, algorithm_in, algorithm_tokens}

-- after an algorithm's end, in this syntax
abbrev pub past_stage : Syntax → Stage
past_stage p_syntax = past_p
past_stage c_syntax = past_c

-- the algorithm of w begins at this byte, its text is the printed one of this tree, and its tokens spell it, places aside
pub record HoldsPrinted (s : Syntax) (g : Algorithm) (from : ℕ) (w : Text) : Type 0 where
  pub text : AlgorithmText
  pub is_text : algorithm_in w ≡ Some text
  pub begins : text.from ≡ from
  pub ends : text.rest.to ≡ from + length (printed s g)
  -- its end was found, and it is taken for one in this syntax
  pub stage : text.rest.stage ≡ past_stage s
  pub bytes : stretch w text.from text.rest.to ≡ printed s g
  pub tokens : TokAlgorithm w text.from text.rest.to (algorithm_tokens w text)
  pub tree : Algorithm
  pub spelled : Spells s (algorithm_tokens w text) tree
  pub same : placeless tree ≡ placeless g
  -- of the rules on its words and numbers, and on how many tokens there are, it can break the last alone
  pub few : token_offences (algorithm_tokens w text) ≡ too_many_tokens (algorithm_tokens w text)
  -- no rule on bytes, strings, comments and numbers is broken in it, nor one on a segment of the file
  pub fine : algorithm_offences (Some text) ≡ []
  pub sound : offences_of (walk w) ≡ []
  -- the module has its end, and the file an algorithm
  pub ended : no_module w (module_end (walk w)) ≡ []
  pub begun : no_algorithm (module_end (walk w)) (beginnings (walk w)) ≡ []
  -- no second one begins, and there is a place for a translation
  pub alone : second_algorithms (Some text) (beginnings (walk w)) ≡ []
  pub placed : placements (walk w) ≡ []
