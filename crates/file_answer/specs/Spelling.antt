-- How a file is refused where its algorithm is only to be spelled, as `rewrite` asks it: by what is wrong with its text, its parts, and the algorithm's
-- tokens, rules 1 to 15 ("A PlusCal User's Manual", sections 2.1 and 3, appendix A).
use Rattle.std.specs.Prelude.{◌≡◌, ℕ, nat_le, ◌&&◌, List, [], Option, Some, None, if◌then◌else◌, filter}
use Rattle.tla_token.specs.declared.rule.Refusal.{Refusal}
use Rattle.tla_token.specs.Places.{place_at}
use Rattle.tla_token.specs.Rules.{rule_number}
use Rattle.tla_token.specs.Offences.{Offence}
use Rattle.tla_token.specs.AlgorithmOffences.{algorithm_offences}
use Rattle.pcal_tree.specs.Grammar.{Syntax, p_syntax, c_syntax}
use Rattle.algorithm_answer.specs.Answered as answered
use Rattle.module_tree.specs.TextFront.{Text}
use Rattle.module_tree.specs.AlgorithmText.{AlgorithmText, is_c, algorithm_in, algorithm_tokens}
use Rattle.module_tree.specs.FileOffences.{file_offences}
use Rattle.algorithm_answer.specs.TokensRefused.{placed}
use Rattle.file_answer.specs.Refusals.{Wrong, up_to, of_spelling, refusal_of}

-- those of the rules from the first number to the second
abbrev pub of_rules : ℕ → ℕ → List Offence → List Offence
of_rules n m os = filter (λ (o : Offence). nat_le n (rule_number o.0) && nat_le (rule_number o.0) m) os

-- an algorithm is in C-syntax exactly if a brace follows its name
abbrev pub syntax_at : AlgorithmText → Syntax
syntax_at a = if is_c a.rest.stage then c_syntax else p_syntax

-- all its tokens pass, and then its end; or the first one that doesn't is refused so
abbrev pub AreRead : Text → AlgorithmText → Option Refusal → Type 0
AreRead x a stop = answered.AreRead (syntax_at a) (algorithm_tokens x a) (place_at x a.rest.to) stop

-- where they pass, what is past a limit in the algorithm that they spell
abbrev pub AreCounted : Text → AlgorithmText → Option Refusal → List Refusal → Type 0
AreCounted x a stop counts = answered.AreCounted (syntax_at a) (algorithm_tokens x a) stop counts

-- what is wrong with the algorithm that stands in x, if any does
abbrev pub OfAlgorithm : Text → Wrong → Option AlgorithmText → Type 0
OfAlgorithm x w None = (w.tokens ≡ []) × (w.syntax ≡ None) × (w.counts ≡ [])
OfAlgorithm x w (Some a) = (w.tokens ≡ placed x (algorithm_offences (algorithm_tokens x a))) × AreRead x a w.syntax × AreCounted x a w.syntax w.counts

-- none of these is of a rule that a rewriting looks at
abbrev pub AreLater : List Refusal → Type 0
AreLater rs = up_to of_spelling rs ≡ []

-- what is wrong with the file x up to how its algorithm is spelled; of names and labels it is only said that they are refused by later rules
pub record IsSpelling (x : Text) (w : Wrong) : Type 0 where
  pub bytes : w.bytes ≡ placed x (of_rules 1 4 (file_offences x))
  pub parts : w.parts ≡ placed x (of_rules 5 10 (file_offences x))
  pub algorithm : OfAlgorithm x w (algorithm_in x)
  pub names : AreLater w.names
  pub labels : AreLater w.labels

-- the answer to a rewriting of x: the refusal, by the least of the rules 1 to 15 at its first place; none, where it is rewritten
abbrev pub AnswersRewriting : Text → Option Refusal → Type 0
AnswersRewriting x r = (w : Wrong) × IsSpelling x w × (refusal_of of_spelling w ≡ r)
