-- A file that is refused before its algorithm is read, by the rules 1 to 10, is answered so.
use Rattle.std.proofs.Common.{◌≡◌, ℕ, ◌+◌, ◌<◌, ◌≤◌, Bool, true, false, ◌&&◌, ◌||◌, cond, List, [], ◌∷◌, ◌++◌, length, map, Option, Some, None, refl, sym, ap, ◌∙◌, arith, le-ltb, lt-ltb}
use Rattle.std.specs.Prelude.{nat_le, nat_lt, filter}
use Rattle.std.specs.List.{list_all, list_any}
use Rattle.std.proofs.lemmas.Bool.{and_parts, and_from, and_right, or_left, leb-true, leb-false, le-leb}
use Rattle.std.proofs.lemmas.List.Elements.{filter-append}
use Rattle.std.proofs.lemmas.List.Folds.{list_any-append}
use Rattle.tla_token.specs.declared.place.Place.{Place}
use Rattle.tla_token.specs.declared.rule.Rule.{Rule}
use Rattle.tla_token.specs.declared.rule.Rule.TheVariants.{NumberTooBig, BadToken}
use Rattle.tla_token.specs.declared.rule.Refusal.{Refusal}
use Rattle.tla_token.specs.Limits.{past_numbers}
use Rattle.tla_token.specs.Places.{place_at, after}
use Rattle.tla_token.specs.Rules.{rule_number}
use Rattle.tla_token.specs.Lexemes as lexeme
use Rattle.tla_token.specs.Tokens as text
use Rattle.tla_token.specs.Tokens.{blank, block, line, tokens_of, holds_mark}
use Rattle.tla_token.specs.Cut.{pieces}
use Rattle.tla_token.specs.Offences.{Part, sound, stray, bad_string, open_string, open_block, Offence, offence_if, kind_offences, part_offences}
use Rattle.tla_token.specs.AlgorithmOffences.{left_out, number_offences, too_many_tokens, algorithm_offences}
use Rattle.pcal_tree.specs.Offences.{first}
use Rattle.pcal_tree.proofs.FirstLaws.{Below, same_first, lesser_first}
use Rattle.pcal_tree.proofs.SetLaws.{Same}
use Rattle.module_tree.specs.TextFront.{Text}
use Rattle.module_tree.specs.AlgorithmText.{IndexedPart, AlgorithmText, algorithm_in, algorithm_tokens}
use Rattle.module_tree.specs.Walk.{walk}
use Rattle.module_tree.specs.FileOffences.{offences_of, inner_offences, file_offences, is_splitting, splitting_offences, RefusesSplit}
use Rattle.module_tree.specs.FileOffences as file
use Rattle.module_tree.proofs.FineFiles.{all_more}
use Rattle.module_tree.proofs.WalkPlace.{both_empty}
use Rattle.algorithm_answer.specs.Answered.{or_counts}
use Rattle.algorithm_answer.specs.TokensRefused.{placed}
use Rattle.file_answer.specs.Refusals.{Wrong, or_else, up_to, of_spelling}
use Rattle.file_answer.specs.Spelling.{of_rules, OfAlgorithm, IsSpelling, AnswersRewriting}
use Rattle.file_answer.proofs.OneAnswer.{asked, asked_alone, some_answer}
use Rattle.file_answer.proofs.Unrefused.{if_all, left_all, many_all, rules_asked, positive}
use Rattle.file_answer.proofs.Decided.{is_asked_of, all_up, in_text_asked, read_all}
use Rattle.file_answer.proofs.PlaceOrder.{told, first_told}
use Rattle.tla_value.proofs.OrderSets.{either_swap}

-- ---- the rules 1 to 10 are 1 to 4 and 5 to 10

-- with o or without it
abbrev with_it : Offence → Bool → List Offence → List Offence
with_it o b os = cond b (o ∷ os) os

in_halves : (x : Text) (os : List Offence) → Same (placed x (filter is_splitting os)) (placed x (of_rules 1 4 os) ++ placed x (of_rules 5 10 os))
in_halves x [] f = refl
in_halves x (o ∷ os) f = by (nat_le n 4) refl (nat_le n 10) refl (in_halves x os f)
  where
    n : ℕ
    n = rule_number o.0

    t : Refusal
    t = told x o

    low : List Offence
    low = of_rules 1 4 os

    high : List Offence
    high = of_rules 5 10 os

    -- where o is among these
    whole : (k i j : Bool) → nat_le n 10 ≡ k → (nat_le 1 n && nat_le n 4) ≡ i → (nat_le 5 n && nat_le n 10) ≡ j
        → list_any f (placed x (cond k (o ∷ filter is_splitting os) (filter is_splitting os))) ≡ list_any f (placed x (cond i (o ∷ low) low) ++ placed x (cond j (o ∷ high) high))
        → list_any f (placed x (filter is_splitting (o ∷ os))) ≡ list_any f (placed x (of_rules 1 4 (o ∷ os)) ++ placed x (of_rules 5 10 (o ∷ os)))
    whole k i j a b c h =
        ap (λ (k : Bool). list_any f (placed x (cond k (o ∷ filter is_splitting os) (filter is_splitting os)))) a ∙ h
        ∙ sym (λ z. list_any f (placed x (cond (b z) (o ∷ low) low) ++ placed x (cond (c z) (o ∷ high) high)))

    by : (i : Bool) → nat_le n 4 ≡ i → (j : Bool) → nat_le n 10 ≡ j → list_any f (placed x (filter is_splitting os)) ≡ list_any f (placed x low ++ placed x high)
        → list_any f (placed x (filter is_splitting (o ∷ os))) ≡ list_any f (placed x (of_rules 1 4 (o ∷ os)) ++ placed x (of_rules 5 10 (o ∷ os)))
    by true i j jj h =
        let below : n ≤ 4 = leb-true n 4 i in
        let not_high : nat_le 5 n ≡ false = under 5 n (omega (arith, below)) in
        whole true true false (le-leb n 10 (omega (arith, below))) (and_from (nat_le 1 n) (nat_le n 4) (positive o.0) i) (ap (λ (b : Bool). b && nat_le n 10) not_high) (ap (λ (b : Bool). f t || b) h)
      where
        under : (a b : ℕ) → b < a → nat_le a b ≡ false
        under a b l = by_le (nat_le a b) refl
          where
            by_le : (k : Bool) → nat_le a b ≡ k → nat_le a b ≡ false
            by_le true k = (let m = leb-true a b k in absurd (omega (arith, l, m)))
            by_le false k = k
    by false i true j h =
        let above : 4 < n = leb-false n 4 i in
        whole true false true j (and_right (nat_le 1 n) (nat_le n 4) i) (and_from (nat_le 5 n) (nat_le n 10) (le-leb 5 n (omega (arith, above))) j) (
        ap (λ (b : Bool). f t || b) (h ∙ list_any-append f (placed x low) (placed x high))
        ∙ either_swap (f t) (list_any f (placed x low)) (list_any f (placed x high))
        ∙ sym (list_any-append f (placed x low) (t ∷ placed x high))
        )
    by false i false j h = whole false false false j (and_right (nat_le 1 n) (nat_le n 4) i) (and_right (nat_le 5 n) (nat_le n 10) j) h

-- ---- which rules are in a list

abbrev is_late : Rule → Bool
is_late r = nat_le 11 (rule_number r)

abbrev late_of : Refusal → Bool
late_of r = is_late r.rule

abbrev late_at : Offence → Bool
late_at o = is_late o.0

-- late ones are no lesser ones
none_below : (rs : List Refusal) → list_all late_of rs ≡ true → list_any (Below 11) rs ≡ false
none_below [] h = refl
none_below (r ∷ rs) h =
    let k = and_parts (late_of r) (list_all late_of rs) h in
    λ i. le-ltb (rule_number r.rule) 11 (leb-true 11 (rule_number r.rule) k.0) i || none_below rs k.1 i

kept_late : (rs : List Refusal) → list_all late_of rs ≡ true → list_all late_of (up_to of_spelling rs) ≡ true
kept_late [] h = refl
kept_late (r ∷ rs) h = (let k = and_parts (late_of r) (list_all late_of rs) h in by (is_asked_of r) refl k.0 (kept_late rs k.1))
  where
    by : (b : Bool) → is_asked_of r ≡ b → late_of r ≡ true → list_all late_of (up_to of_spelling rs) ≡ true → list_all late_of (up_to of_spelling (r ∷ rs)) ≡ true
    by true e l more = ap (λ (b : Bool). list_all late_of (cond b (r ∷ up_to of_spelling rs) (up_to of_spelling rs))) e ∙ and_from (late_of r) (list_all late_of (up_to of_spelling rs)) l more
    by false e l more = ap (λ (b : Bool). list_all late_of (cond b (r ∷ up_to of_spelling rs) (up_to of_spelling rs))) e ∙ more

late_in_text : (x : Text) (os : List Offence) → list_all late_at os ≡ true → list_all late_of (placed x os) ≡ true
late_in_text x [] h = refl
late_in_text x (o ∷ os) h = (let k = and_parts (late_at o) (list_all late_at os) h in and_from (is_late o.0) (list_all late_of (placed x os)) k.0 (late_in_text x os k.1))

-- the first of those of the rules 1 to 4 is lesser than 5, and those of 5 to 10 aren't
low_first : (x : Text) (os : List Offence) (o : Offence) (more : List Offence) → of_rules 1 4 os ≡ o ∷ more → list_any (Below 5) (placed x (of_rules 1 4 os)) ≡ true
low_first x [] o more e = absurd cc
low_first x (p ∷ os) o more e = by (nat_le n 4) refl (low_first x os o more)
  where
    n : ℕ
    n = rule_number p.0

    by : (k : Bool) → nat_le n 4 ≡ k → (of_rules 1 4 os ≡ o ∷ more → list_any (Below 5) (placed x (of_rules 1 4 os)) ≡ true) → list_any (Below 5) (placed x (of_rules 1 4 (p ∷ os))) ≡ true
    by true k deeper =
        let l : n ≤ 4 = leb-true n 4 k in
        ap (λ (b : Bool). list_any (Below 5) (placed x (with_it p b (of_rules 1 4 os)))) (and_from (nat_le 1 n) (nat_le n 4) (positive p.0) k)
        ∙ or_left (nat_lt n 5) (list_any (Below 5) (placed x (of_rules 1 4 os))) (lt-ltb n 5 (omega (arith, l)))
    by false k deeper =
        let none : (nat_le 1 n && nat_le n 4) ≡ false = and_right (nat_le 1 n) (nat_le n 4) k in
        ap (λ (b : Bool). list_any (Below 5) (placed x (with_it p b (of_rules 1 4 os)))) none ∙ deeper (ap (λ (b : Bool). with_it p b (of_rules 1 4 os)) (sym none) ∙ e)

high_only : (x : Text) (os : List Offence) → list_any (Below 5) (placed x (of_rules 5 10 os)) ≡ false
high_only x [] = refl
high_only x (p ∷ os) = by (nat_le 5 n) refl (nat_le n 10) (high_only x os)
  where
    n : ℕ
    n = rule_number p.0

    by : (k : Bool) → nat_le 5 n ≡ k → (j : Bool) → list_any (Below 5) (placed x (of_rules 5 10 os)) ≡ false → list_any (Below 5) (placed x (cond (k && j) (p ∷ of_rules 5 10 os) (of_rules 5 10 os))) ≡ false
    by true k true h = λ i. le-ltb n 5 (leb-true 5 n k) i || h i
    by true k false h = h
    by false k j h = h

high_below : (x : Text) (os : List Offence) (o : Offence) (more : List Offence) → of_rules 5 10 os ≡ o ∷ more → list_any (Below 11) (placed x (of_rules 5 10 os)) ≡ true
high_below x [] o more e = absurd cc
high_below x (p ∷ os) o more e = by (nat_le 5 n) (nat_le n 10) refl e (high_below x os o more)
  where
    n : ℕ
    n = rule_number p.0

    by : (k j : Bool) → nat_le n 10 ≡ j → cond (k && j) (p ∷ of_rules 5 10 os) (of_rules 5 10 os) ≡ o ∷ more → (of_rules 5 10 os ≡ o ∷ more → list_any (Below 11) (placed x (of_rules 5 10 os)) ≡ true)
        → list_any (Below 11) (placed x (cond (k && j) (p ∷ of_rules 5 10 os) (of_rules 5 10 os))) ≡ true
    by true true j e deeper = (let l : n ≤ 10 = leb-true n 10 j in or_left (nat_lt n 11) (list_any (Below 11) (placed x (of_rules 5 10 os))) (lt-ltb n 11 (omega (arith, l))))
    by true false j e deeper = deeper e
    by false k j e deeper = deeper e

-- ---- the algorithm's tokens, where no string is refused

-- what offends in none of two lists
none_of_both : (os ps : List Offence) → of_rules 1 4 (os ++ ps) ≡ [] → (of_rules 1 4 os ≡ []) × (of_rules 1 4 ps ≡ [])
none_of_both os ps e =
    both_empty (of_rules 1 4 os) (of_rules 1 4 ps) (sym (filter-append (λ (o : Offence). nat_le 1 (rule_number o.0) && nat_le (rule_number o.0) 4) os ps) ∙ e)

-- a string without a mark
no_string : (at n : ℕ) (w : Text) → of_rules 1 4 (kind_offences true at (lexeme.string w)) ≡ [] → kind_offences true n (lexeme.string w) ≡ []
no_string at n w e = by (holds_mark w) refl
  where
    by : (k : Bool) → holds_mark w ≡ k → kind_offences true n (lexeme.string w) ≡ []
    by true k = (let f : ◌≡◌ {A = List Offence} ((BadToken, at) ∷ []) [] = ap (λ (b : Bool). of_rules 1 4 (offence_if b BadToken at)) (sym k) ∙ e in absurd cc)
    by false k = ap (λ (b : Bool). offence_if b BadToken n) k

late_numbers : (ps : List IndexedPart) → of_rules 1 4 (inner_offences ps) ≡ [] → (p : Place) (n : ℕ) → list_all late_at (number_offences (tokens_of p n (pieces (map (λ q. q.1) ps)))) ≡ true
late_numbers [] h p n = refl
late_numbers ((at, q) ∷ ps) h p n = (let b = none_of_both (part_offences true at q) (inner_offences ps) h in by q b.0 (late_numbers ps b.1))
  where
    by : (q : Part) → of_rules 1 4 (part_offences true at q) ≡ [] → ((p : Place) (n : ℕ) → list_all late_at (number_offences (tokens_of p n (pieces (map (λ q. q.1) ps)))) ≡ true)
        → list_all late_at (number_offences (tokens_of p n (pieces (q ∷ map (λ q. q.1) ps)))) ≡ true
    by (sound (blank b)) e more = more _ _
    by (sound (block w)) e more = more _ _
    by (sound (line w)) e more = more _ _
    by (sound (text.lexeme (lexeme.number k) w)) e more = all_more late_at (offence_if (nat_le past_numbers k) NumberTooBig n) _ (if_all is_late (nat_le past_numbers k) NumberTooBig n refl) (more _ _)
    by (sound (text.lexeme (lexeme.name v) w)) e more = more _ _
    by (sound (text.lexeme (lexeme.string v) w)) e more =
        ap (λ (os : List Offence). list_all late_at (os ++ number_offences (tokens_of (after p w) (n + length w) (pieces (map (λ q. q.1) ps))))) (no_string at n v e) ∙ more _ _
    by (sound (text.lexeme (lexeme.one s) w)) e more = more _ _
    by (sound (text.lexeme (lexeme.other v) w)) e more = more _ _
    by (stray b) e more = more p n
    by (bad_string w) e more = more p n
    by (open_string w) e more = more p n
    by (open_block w) e more = more p n

late_tokens : (x : Text) (a : AlgorithmText) → of_rules 1 4 (inner_offences a.rest.parts) ≡ [] → list_all late_at (algorithm_offences (algorithm_tokens x a)) ≡ true
late_tokens x a h =
    let ts = algorithm_tokens x a in
    all_more late_at (left_out ts) (number_offences ts ++ too_many_tokens ts) (left_all is_late refl ts)
    (all_more late_at (number_offences ts) (too_many_tokens ts) (late_numbers a.rest.parts h (place_at x (a.from + length a.opening)) (a.from + length a.opening)) (many_all is_late refl ts))

-- ---- the file

module _ (x : Text) (w : Wrong) (is : IsSpelling x w) (r : Refusal) (split : RefusesSplit x r) where
  abbrev os : List Offence
  os = file_offences x

  abbrev rest : List Refusal
  rest = w.tokens ++ or_counts w.syntax w.counts

  late_rest : of_rules 1 4 os ≡ [] → (o : Option AlgorithmText) → algorithm_in x ≡ o → OfAlgorithm x w o → list_all late_of rest ≡ true
  late_rest none None e k = ap (list_all late_of) (λ i. k.0 i ++ or_counts (k.1 i) (k.2 i))
  late_rest none (Some a) e k =
      let b = none_of_both (offences_of (walk x)) _ none in
      let c = none_of_both (file.algorithm_offences (algorithm_in x)) _ b.1 in
      let own : of_rules 1 4 (inner_offences a.rest.parts) ≡ [] = ap (λ (o : Option AlgorithmText). of_rules 1 4 (file.algorithm_offences o)) (sym e) ∙ c.0 in
      all_more late_of w.tokens (or_counts w.syntax w.counts) (ap (list_all late_of) k.0 ∙ late_in_text x (algorithm_offences (algorithm_tokens x a)) (late_tokens x a own))
      (read_all is_late refl refl refl x a w.syntax w.counts k.1 k.2)

  split_first : first (placed x (of_rules 1 4 os) ++ placed x (of_rules 5 10 os)) ≡ Some r
  split_first =
      let same : told x (r.rule, split.at) ≡ r = λ i. record { rule = r.rule; place = sym split.place i } in
      sym (same_first (placed x (splitting_offences x)) (placed x (of_rules 1 4 os) ++ placed x (of_rules 5 10 os)) (in_halves x os))
      ∙ first_told x (splitting_offences x) (r.rule, split.at) split.first ∙ ap (λ (r : Refusal). Some r) same

  with_bytes : (o : Offence) (more : List Offence) → of_rules 1 4 os ≡ o ∷ more → first (up_to of_spelling (asked w)) ≡ Some r
  with_bytes o more e =
      ap (λ (b : List Refusal). first (up_to of_spelling (or_else b (w.parts ++ rest)))) (is.bytes ∙ ap (placed x) e)
      ∙ ap (λ (ps : List Offence). first (up_to of_spelling (placed x ps))) (sym e)
      ∙ ap first (all_up (placed x (of_rules 1 4 os)) (in_text_asked x (of_rules 1 4 os) (rules_asked 1 4 refl os)))
      ∙ sym (lesser_first 5 (placed x (of_rules 1 4 os)) (placed x (of_rules 5 10 os)) (low_first x os o more e) (high_only x os))
      ∙ split_first

  without_bytes : of_rules 1 4 os ≡ [] → (ps : List Offence) → of_rules 5 10 os ≡ ps → first (up_to of_spelling (asked w)) ≡ Some r
  without_bytes none [] e = (let f : None ≡ Some r = (λ i. first (placed x (sym none i) ++ placed x (sym e i))) ∙ split_first in absurd cc)
  without_bytes none (o ∷ more) e =
      let parts = placed x (of_rules 5 10 os) in
      (λ i. first (up_to of_spelling (or_else ((is.bytes ∙ ap (placed x) none) i) (is.parts i ++ rest))))
      ∙ ap first (filter-append (λ (r : Refusal). nat_le (rule_number r.rule) of_spelling) parts rest)
      ∙ ap (λ (rs : List Refusal). first (rs ++ up_to of_spelling rest)) (all_up parts (in_text_asked x (of_rules 5 10 os) (rules_asked 5 10 refl os)))
      ∙ lesser_first 11 parts (up_to of_spelling rest) (high_below x os o more e) (none_below (up_to of_spelling rest) (kept_late rest (late_rest none (algorithm_in x) refl is.algorithm)))
      ∙ ap (λ (ps : List Offence). first (placed x ps ++ parts)) (sym none) ∙ split_first

  pub answers_split : first (up_to of_spelling (asked w)) ≡ Some r
  answers_split = by (of_rules 1 4 os) refl
    where
      by : (ps : List Offence) → of_rules 1 4 os ≡ ps → first (up_to of_spelling (asked w)) ≡ Some r
      by [] e = without_bytes e (of_rules 5 10 os) refl
      by (o ∷ more) e = with_bytes o more e

pub split_decides : (x : Text) (r : Refusal) → RefusesSplit x r → AnswersRewriting x (Some r)
split_decides x r h = by (some_answer x)
  where
    by : (q : Option Refusal) × AnswersRewriting x q → AnswersRewriting x (Some r)
    by (q, (w, is, e)) = (w, is, ap first (asked_alone w is.names is.labels) ∙ answers_split x w is r h)
