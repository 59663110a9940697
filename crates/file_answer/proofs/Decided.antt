-- Where a file breaks none of the rules 1 to 10, its algorithm decides the answer: the first of what is wrong with its tokens and with what they spell.
use Rattle.std.proofs.Common.{◌≡◌, ℕ, ◌≤◌, Bool, true, false, cond, List, [], ◌∷◌, ◌++◌, Option, Some, None, refl, sym, ap, subst, ◌∙◌, arith}
use Rattle.std.specs.Prelude.{nat_le, filter}
use Rattle.std.specs.List.{list_all}
use Rattle.std.proofs.lemmas.Bool.{and_parts, and_from, and_right, false_from_ne_true, both_ways, leb-true, le-leb}
use Rattle.tla_token.specs.declared.rule.Rule.{Rule}
use Rattle.tla_token.specs.declared.rule.Rule.TheVariants.{TooMany, TooDeep, Syntax}
use Rattle.tla_token.specs.declared.rule.Refusal.{Refusal}
use Rattle.tla_token.specs.Places.{place_at}
use Rattle.tla_token.specs.Rules.{rule_number}
use Rattle.tla_token.specs.Offences.{Offence}
use Rattle.tla_token.specs.AlgorithmOffences.{algorithm_offences}
use Rattle.pcal_tree.specs.Offences.{first}
use Rattle.module_tree.specs.TextFront.{Text}
use Rattle.module_tree.specs.AlgorithmText.{AlgorithmText, algorithm_in, algorithm_tokens}
use Rattle.module_tree.specs.FileOffences.{file_offences, is_splitting, splitting_offences}
use Rattle.module_tree.proofs.FineFiles.{all_more}
use Rattle.algorithm_answer.specs.Answered.{or_counts}
use Rattle.algorithm_answer.specs.TokensRefused.{placed}
use Rattle.file_answer.specs.Refusals.{or_else, up_to, of_spelling}
use Rattle.file_answer.specs.Spelling.{of_rules, syntax_at, AreRead, AreCounted, OfAlgorithm, AnswersRewriting}
use Rattle.file_answer.proofs.OneAnswer.{wrong, asked_alone}
use Rattle.file_answer.proofs.Unrefused.{is_asked, Asked, tokens_asked, stop_all}
use Rattle.file_answer.proofs.Counts.{counts_many}

-- ---- nothing is wrong with the file

none_of_rules : (n m : ℕ) → nat_le m 10 ≡ true → (os : List Offence) → filter is_splitting os ≡ [] → of_rules n m os ≡ []
none_of_rules n m low [] h = refl
none_of_rules n m low (o ∷ os) h = by (is_splitting o) refl (none_of_rules n m low os)
  where
    above : is_splitting o ≡ false → nat_le (rule_number o.0) m ≡ false
    above e =
        false_from_ne_true (nat_le (rule_number o.0) m) (λ k. both_ways (is_splitting o) e (within (leb-true (rule_number o.0) m k) (leb-true m 10 low)))
      where
        within : rule_number o.0 ≤ m → m ≤ 10 → is_splitting o ≡ true
        within a b = le-leb (rule_number o.0) 10 (omega (arith, a, b))

    by : (k : Bool) → is_splitting o ≡ k → (filter is_splitting os ≡ [] → of_rules n m os ≡ []) → of_rules n m (o ∷ os) ≡ []
    by true k deeper = (let f : o ∷ filter is_splitting os ≡ [] = ap (λ (b : Bool). cond b (o ∷ filter is_splitting os) (filter is_splitting os)) (sym k) ∙ h in absurd cc)
    by false k deeper =
        let more : filter is_splitting os ≡ [] = ap (λ (b : Bool). cond b (o ∷ filter is_splitting os) (filter is_splitting os)) (sym k) ∙ h in
        ap (λ (b : Bool). cond b (o ∷ of_rules n m os) (of_rules n m os)) (and_right (nat_le n (rule_number o.0)) (nat_le (rule_number o.0) m) (above k)) ∙ deeper more

-- ---- what is wrong with the algorithm is asked

abbrev pub is_asked_of : Refusal → Bool
is_asked_of r = is_asked r.rule

pub all_up : (rs : List Refusal) → list_all is_asked_of rs ≡ true → up_to of_spelling rs ≡ rs
all_up [] h = refl
all_up (r ∷ rs) h =
    let k = and_parts (is_asked_of r) (list_all is_asked_of rs) h in
    ap (λ (b : Bool). cond b (r ∷ up_to of_spelling rs) (up_to of_spelling rs)) k.0 ∙ ap (λ (qs : List Refusal). r ∷ qs) (all_up rs k.1)

-- of what rules offences are of, their refusals are
pub told_all : (p : Rule → Bool) (x : Text) (os : List Offence) → list_all (λ (o : Offence). p o.0) os ≡ true → list_all (λ (r : Refusal). p r.rule) (placed x os) ≡ true
told_all p x [] h = refl
told_all p x (o ∷ os) h =
    let k = and_parts (p o.0) (list_all (λ (o : Offence). p o.0) os) h in
    and_from (p o.0) (list_all (λ (r : Refusal). p r.rule) (placed x os)) k.0 (told_all p x os k.1)

-- of what counts of two lists
pub all_or_else : (P : Refusal → Bool) (early late : List Refusal) → list_all P early ≡ true → list_all P late ≡ true → list_all P (or_else early late) ≡ true
all_or_else P [] late h k = k
all_or_else P (r ∷ rs) late h k = h

pub in_text_asked : (x : Text) (os : List Offence) → Asked os → list_all is_asked_of (placed x os) ≡ true
in_text_asked x os h = told_all is_asked x os h

-- of what is wrong where the tokens stop, and past a limit in what they spell
pub read_all : (p : Rule → Bool) → p TooMany ≡ true → p TooDeep ≡ true → p Syntax ≡ true → (x : Text) (a : AlgorithmText) (s : Option Refusal) (cs : List Refusal) → AreRead x a s → AreCounted x a s cs
    → list_all (λ (r : Refusal). p r.rule) (or_counts s cs) ≡ true
read_all p many deep syntax x a (Some r) cs h k = and_from (p r.rule) true (stop_all p deep syntax (syntax_at a) (algorithm_tokens x a) (place_at x a.rest.to) r h) refl
read_all p many deep syntax x a None cs h k = subst (λ (rs : List Refusal). list_all (λ (r : Refusal). p r.rule) rs ≡ true) (sym k.2) (counts_many p many k.0)

pub algorithm_decides : (x : Text) (a : AlgorithmText) (s : Option Refusal) (cs : List Refusal) → splitting_offences x ≡ [] → algorithm_in x ≡ Some a → AreRead x a s → AreCounted x a s cs
    → AnswersRewriting x (first (placed x (algorithm_offences (algorithm_tokens x a)) ++ or_counts s cs))
algorithm_decides x a s cs fine is h k =
    let tokens = placed x (algorithm_offences (algorithm_tokens x a)) in
    let w = wrong x tokens s cs in
    let bytes = none_of_rules 1 4 refl (file_offences x) fine in
    let parts = none_of_rules 5 10 refl (file_offences x) fine in
    let all = all_more is_asked_of tokens (or_counts s cs) (in_text_asked x (algorithm_offences (algorithm_tokens x a)) (tokens_asked (algorithm_tokens x a))) (read_all is_asked refl refl refl x a s cs h k) in (
      w,
      record { bytes = refl; parts = refl; algorithm = subst (OfAlgorithm x w) (sym is) (refl, h, k); names = refl; labels = refl },
      ap first (asked_alone w refl refl
          ∙ (λ i. up_to of_spelling (or_else (placed x (bytes i)) (placed x (parts i) ++ (tokens ++ or_counts s cs))))
          ∙ all_up (tokens ++ or_counts s cs) all),
    )
