-- The one refusal that is answered, of all that is wrong with a file, and of the files that a command reads.
use Rattle.std.specs.Prelude.{ℕ, suc, nat_le, List, [], ◌∷◌, ◌++◌, map, filter, Option, Some, None}
use Rattle.tla_token.specs.declared.rule.Refusal.{Refusal}
use Rattle.tla_token.specs.declared.rule.Stop.{Stop}
use Rattle.tla_token.specs.declared.rule.Stop.TheVariants as stop
use Rattle.tla_token.specs.Rules.{rule_number}
use Rattle.pcal_tree.specs.Offences.{first}
use Rattle.algorithm_answer.specs.Answered.{or_counts}

-- all that is wrong with the file of a module, each list looked at for itself; those of the algorithm are none where it isn't spelled
pub record Wrong : Type 0 where
  pub bytes : List Refusal  -- bytes, strings, comments: rules 1 to 4
  pub parts : List Refusal  -- module, algorithm, region: rules 5 to 10
  pub tokens : List Refusal  -- tokens of the algorithm, one by one: rules 11, 12, and 13 of tokens
  pub syntax : Option Refusal  -- the first token that doesn't pass: rule 14 or 15
  pub counts : List Refusal  -- names, chains of macros, definitions: all else of rule 13
  pub names : List Refusal  -- rules 20 to 34
  pub labels : List Refusal  -- rules 40 to 49

-- the later ones count only where there are none of the earlier
abbrev pub or_else : List Refusal → List Refusal → List Refusal
or_else [] later = later
or_else (r ∷ rs) later = r ∷ rs

-- those that count
abbrev pub counting : Wrong → List Refusal
counting w = or_else w.bytes (w.parts ++ (w.tokens ++ or_counts w.syntax (w.counts ++ or_else w.names w.labels)))

-- by the rules of a command, which go up to this number
abbrev pub up_to : ℕ → List Refusal → List Refusal
up_to n rs = filter (λ (r : Refusal). nat_le (rule_number r.rule) n) rs

-- to rewrite an algorithm is refused by the rules on how it is spelled, to complete it by these but the last; all others by all rules
abbrev pub of_spelling : ℕ
of_spelling = 15

abbrev pub of_completion : ℕ
of_completion = 14

abbrev pub of_all : ℕ
of_all = 50

-- the least rule, at its first place in the text
abbrev pub refusal_of : ℕ → Wrong → Option Refusal
refusal_of n w = first (up_to n (counting w))

-- of files in their order, the first one that is refused, by its number from n on
abbrev pub first_file : ℕ → List (Option Refusal) → Option (ℕ × Refusal)
first_file n [] = None
first_file n (Some r ∷ rs) = Some (n, r)
first_file n (None ∷ rs) = first_file (suc n) rs

-- a module, and the files beside it that the command reads, each with what is wrong with it
abbrev pub refused : ℕ → Wrong → List (List Refusal) → Option (ℕ × Refusal)
refused n w others = first_file 0 (refusal_of n w ∷ map first others)

-- why a call gives nothing, where this says how a text is refused; of want of memory nothing is said
abbrev pub IsStop : (Refusal → Type 0) → Stop → Type 0
IsStop R stop.Memory = Unit {0}
IsStop R (stop.Refused r) = R r
