-- The first of all that tokens offend one by one and of what is wrong with what was read.
use Rattle.std.proofs.Common.{◌≡◌, List, ◌++◌, Option, Some, None, Result, Ok, Err, sym, ap, ◌∙◌}
use Rattle.tla_token.specs.declared.rule.Refusal.{Refusal}
use Rattle.tla_token.specs.declared.rule.Stop.{Stop}
use Rattle.tla_token.specs.declared.rule.Stop.TheVariants as stop
use Rattle.tla_token.specs.Tokens.{Token}
use Rattle.tla_tree.specs.Tree.{Tree}
use Rattle.pcal_tree.specs.declared.algorithm.Algorithm as code
use Rattle.pcal_tree.specs.Offences.{first}
use Rattle.algorithm_answer.specs.Joined.{joined}
use Rattle.algorithm_answer.specs.TokensRefused.{token_refusals}
use Rattle.algorithm_limits.specs.ReadOffences.{reading_offences}
use Rattle.algorithm_answer.proofs.Joins.{first_append}

pub first_is : (ts : List Tree) (tokens : List Token) (read : Result code.Algorithm Stop) (a b both : Option Refusal) → a ≡ first (token_refusals tokens) → b ≡ first (reading_offences ts read) → both ≡ joined a b
    → first (token_refusals tokens ++ reading_offences ts read) ≡ both
first_is ts tokens read a b both e f g = first_append (token_refusals tokens) (reading_offences ts read) ∙ (λ i. joined (sym e i) (sym f i)) ∙ sym g

-- what is answered in place of an algorithm
abbrev pub refused_of : Result code.Algorithm Stop → Option Refusal
refused_of (Ok a) = None
refused_of (Err (stop.Refused r)) = Some r
refused_of (Err stop.Memory) = None

pub same_refusal : (x y : Result code.Algorithm Stop) → x ≡ y → refused_of x ≡ refused_of y
same_refusal x y e = ap refused_of e
