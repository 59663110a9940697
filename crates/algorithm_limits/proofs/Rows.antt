-- Worked examples of offences of tokens and of counting, and of what the parts of forms see, by computation.
use Rattle.std.specs.Prelude.{ℕ, [], ◌∷◌, Some, codes}
use Rattle.std.proofs.Common.{◌≡◌, refl}
use Rattle.tla_token.specs.declared.place.Place.{Place}
use Rattle.tla_token.specs.declared.rule.Rule.TheVariants.{LeftOutWord, TooMany, Syntax}
use Rattle.tla_token.specs.declared.rule.Refusal.{Refusal}
use Rattle.tla_token.specs.declared.sign.Sign.TheVariants as sign
use Rattle.tla_token.specs.Lexemes.{Kind, name, one}
use Rattle.tla_token.specs.Tokens.{Token}
use Rattle.tla_tree.specs.Tree.{Name, local}
use Rattle.pcal_tree.specs.Offences.{first}
use Rattle.algorithm_answer.specs.Joined.{joined}
use Rattle.algorithm_answer.specs.TokensRefused.{left_out_at, token_refusals}
use Rattle.algorithm_limits.specs.Counting.{none_of, counted, past_limit}
use Rattle.pcal_tree.specs.declared.mark.Mark.TheVariants.{Plain}
use Rattle.pcal_tree.specs.Algorithm.{either, skip, done, then, mark, no_branches, or}
use Rattle.algorithm_limits.specs.LabelNames.{label_names}
use Rattle.algorithm_limits.specs.Numbers.{with_number}
use Rattle.algorithm_limits.specs.ChainsIn.{longest_in}
use Rattle.algorithm_limits.specs.DepthsIn.{depth_in, seen_by, seen_next}

abbrev at : ℕ → Place
at c = record { line = 1; col = c }

abbrev token : Kind → ℕ → Token
token k c = record { kind = k; at = c; place = at c }

abbrev refusal : ℕ → Refusal
refusal c = record { rule = LeftOutWord; place = at c }

-- CHOOSE x ! [
word_and_path : left_out_at (token (name (codes "CHOOSE")) 1 ∷ token (name (codes "x")) 2 ∷ token (one sign.Bang) 3 ∷ token (one sign.OpenSquare) 4 ∷ []) ≡ refusal 1 ∷ []
word_and_path = refl

-- x ! x
no_path : first (token_refusals (token (name (codes "x")) 1 ∷ token (one sign.Bang) 2 ∷ token (name (codes "x")) 3 ∷ [])) ≡ Some (refusal 2)
no_path = refl

lesser_rule : joined (Some (record { rule = Syntax; place = at 1 })) (Some (refusal 5)) ≡ Some (refusal 5)
lesser_rule = refl

abbrev named : ℕ → Name
named c = record { word = codes "x"; place = at c }

-- the second of two, where one may come
second_name : past_limit (counted (none_of 1) (named 1 ∷ named 2 ∷ named 3 ∷ [])) ≡ record { rule = TooMany; place = at 2 } ∷ []
second_name = refl

-- L: either M: skip or N: end either; O: in the order of the text
nested_labels : label_names (mark (named 1) Plain (then (record { first = at 2; last = at 6 }) (either (or (mark (named 3) Plain (then (record { first = at 4; last = at 4 }) skip done)) (or (mark (named 5) Plain done) no_branches))) (mark (named 7) Plain done))) ≡ named 1 ∷ named 3 ∷ named 5 ∷ named 7 ∷ []
nested_labels = refl

-- the longer one of two chains
longer_chain : longest_in (with_number (with_number [] (codes "M") 1) (codes "N") 2) (codes "M" ∷ codes "N" ∷ []) ≡ 2
longer_chain = refl

bound_is_no_use : depth_in (with_number [] (codes "d") 3) (codes "d" ∷ []) (codes "d") ≡ 0
bound_is_no_use = refl

-- LET x == .. y == .. IN ..
let_sees : seen_by (local (named 1 ∷ named 2 ∷ [])) 1 ≡ codes "x" ∷ []
let_sees = refl

let_sees_next : seen_next (local (named 1 ∷ named 2 ∷ [])) 2 ≡ []
let_sees_next = refl
