-- What a call gives that reads all tokens of an algorithm, in either syntax.
use Rattle.std.specs.Prelude.{◌≡◌, ◌≤◌, List, length, take, None, Some, Result, Err, IfOk}
use Rattle.tla_token.specs.declared.rule.Refusal.{Refusal}
use Rattle.tla_token.specs.declared.rule.Stop.{Stop}
use Rattle.tla_token.specs.declared.rule.Stop.TheVariants as stop
use Rattle.tla_token.specs.declared.token.Tokens.{Tokens}
use Rattle.tla_token.specs.Rules.{rule_number}
use Rattle.tla_token.specs.TokensSeen.{tokens_seen}
use Rattle.tla_tree.specs.Tree.{Tree}
use Rattle.tla_tree.specs.Lexical.{Token}
use Rattle.tla_tree.specs.Pool.{Keeps}
use Rattle.pcal_tree.specs.declared.algorithm.Algorithm.{Algorithm}
use Rattle.pcal_tree.specs.InMemory.{algorithm_at, past_algorithm}
use Rattle.pcal_tree.specs.Grammar.{Syntax, p_syntax, c_syntax, Spells}
use Rattle.pcal_tree.specs.AlgorithmTokens.{views}
use Rattle.pcal_tree.specs.OffencesSyntax.{RefusesTokens}
use Rattle.algorithm_answer.specs.Answered.{AreAnswered}
use Rattle.syntax_reading.specs.Completes.{Completes}
use Rattle.p_reading.specs.MissingAlgorithm as p
use Rattle.c_reading.specs.MissingAlgorithm as c

-- the tokens that complete those that were passed to an algorithm
abbrev pub completion : Syntax → List Token → List Token
completion p_syntax = p.completion
completion c_syntax = c.completion

-- what is read of these tokens in a syntax, or why nothing is, over the trees of a pool before the call and after it
pub record AlgorithmRead (s : Syntax) (v : Tokens) (old new : List Tree) (result : Result Algorithm Stop) : Type 0 where
  -- the pool loses no trees
  pub kept : Keeps old new
  -- what is read has numbers of the pool
  pub past : IfOk result (λ a. past_algorithm a ≤ length new)
  -- it is the algorithm that the tokens spell
  pub spelled : IfOk result (λ a. Spells s (tokens_seen v) (algorithm_at new a))
  -- and then nothing is wrong with them by the rules on how an algorithm is spelled
  pub answered : IfOk result (λ a. AreAnswered s (tokens_seen v) v.end None)
  -- a refusal is the one that they are answered by these rules
  pub refused : (r : Refusal) → result ≡ Err (stop.Refused r) → AreAnswered s (tokens_seen v) v.end (Some r)
  -- by 14 and 15 they are refused where reading stops
  pub stopped : (r : Refusal) → result ≡ Err (stop.Refused r) → 14 ≤ rule_number r.rule → RefusesTokens s (tokens_seen v) v.end r
  -- wherever it stops, at a token or at the end, those before are completed to an algorithm, whatever else is wrong with them
  pub completed : (r : Refusal) → (a : RefusesTokens s (tokens_seen v) v.end r) → Completes s (take a.passed (views (tokens_seen v))) (completion s (take a.passed (views (tokens_seen v))))
