-- An algorithm that is read from a file within the limits has few names.
use Rattle.std.proofs.Common.{◌≡◌, ℕ, ◌+◌, ◌*◌, ◌-◌, ◌≤◌, ◌<◌, List, [], ◌∷◌, length, drop, Bool, true, false, refl, sym, ap, subst, ◌∙◌, arith, length-append}
use Rattle.std.proofs.lemmas.Bool.{leb-false}
use Rattle.std.proofs.lemmas.List.{length-map, length-drop}
use Rattle.std.specs.Prelude.{nat_le}
use Rattle.tla_token.specs.declared.rule.Rule.TheVariants.{NumberTooBig, TooMany}
use Rattle.tla_token.specs.AlgorithmOffences.{left_out, number_offences, too_many_tokens, algorithm_offences}
use Rattle.tla_token.specs.Lexemes.{Kind, number}
use Rattle.tla_token.specs.Limits.{past_numbers, past_text, most_tokens}
use Rattle.tla_token.specs.Offences.{Offence, offence_if, kind_offences}
use Rattle.tla_token.specs.Tokens.{Token}
use Rattle.tla_tree.specs.Lexical as tk
use Rattle.tla_tree.specs.laws.Writable.{IsSmall, AreSmall}
use Rattle.tla_value.specs.Outside.{Outside}
use Rattle.module_tree.specs.TextFront.{Text}
use Rattle.module_tree.specs.Walk.{walk}
use Rattle.module_tree.specs.laws.Outsides.{HasOutside}
use Rattle.pcal_tree.specs.Algorithm.{Algorithm}
use Rattle.pcal_tree.specs.AlgorithmTokens.{view}
use Rattle.pcal_tree.specs.Grammar.{spell}
use Rattle.pcal_tree.specs.Labelled.{labelled}
use Rattle.pcal_tree.specs.Names.{taken_outside, kept, wanted}
use Rattle.pcal_tree.specs.laws.Apart.{FewNames}
use Rattle.pcal_tree.proofs.LabelsWeighed.{names_of_labelled}
use Rattle.translation.specs.laws.AcceptedAlgorithm.{IsAccepted}
use Rattle.translation.proofs.OutsideNames.{few_outside}
use Rattle.pcal_tree.proofs.ClearLabels.{both_none}

-- ---- what the rules on tokens say

no_offence : (b : Bool) (at : ℕ) → offence_if b NumberTooBig at ≡ [] → b ≡ false
no_offence true at e = cc
no_offence false at e = refl

kind_small : (at : ℕ) (k : Kind) → kind_offences true at k ≡ [] → IsSmall k
kind_small at (number n) e = leb-false past_numbers n (no_offence (nat_le past_numbers n) at e)
kind_small at k e = tt

numbers_small : (ts : List Token) → number_offences ts ≡ [] → AreSmall ts
numbers_small [] e = tt
numbers_small (t ∷ ts) e = (let p = both_none (kind_offences true t.at t.kind) (number_offences ts) e in (kind_small t.at t.kind p.0, numbers_small ts p.1))

few_tokens : (ts : List Token) → too_many_tokens ts ≡ [] → length ts ≤ most_tokens
few_tokens ts e = by (drop most_tokens ts) refl
  where
    by : (us : List Token) → drop most_tokens ts ≡ us → length ts ≤ most_tokens
    by [] o =
        let none : length ts - most_tokens ≡ 0 = sym (length-drop most_tokens ts) ∙ ap (λ (us : List Token). length us) o in
        omega arith
    by (u ∷ us) o = (let f : ◌≡◌ {A = List Offence} ((TooMany, u.at) ∷ []) [] = rw o at e in absurd cc)

pub tokens_within : (ts : List Token) → algorithm_offences ts ≡ [] → AreSmall ts × (length ts ≤ most_tokens)
tokens_within ts e =
    let p = both_none (number_offences ts) (too_many_tokens ts) (both_none (left_out ts) _ e).1 in
    (numbers_small ts p.0, few_tokens ts p.1)

-- ---- names

pub few_names : (x : Text) (o : Outside) (a : Algorithm) → IsAccepted o a → length x < past_text → HasOutside (walk x) o → FewNames a o
few_names x o a h size out =
    let t = h.spelled.0 in
    let n = subst (λ (b : Algorithm). length (kept b) + length (wanted b) ≤ 2 * length (spell t [])) (ap (labelled h.forced) h.spelled.3 ∙ h.labels_added) (names_of_labelled h.forced t) in
    let e = ap (λ (us : List tk.Token). length us) h.spelled.2 in
    let v = length-map h.tokens view in
    let m = (tokens_within h.tokens h.rules).1 in
    let k = length-append (taken_outside o) (kept a) in
    let u = few_outside x o out in
    omega arith
