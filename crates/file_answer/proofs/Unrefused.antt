-- A file that is not refused breaks no rule of files, and its tokens spell an algorithm.
use Rattle.std.proofs.Common.{◌≡◌, inl, inr, ℕ, suc, ◌<◌, Bool, true, false, ◌&&◌, cond, List, [], ◌∷◌, ◌++◌, map, take, drop, Option, Some, None, refl, sym, ap, subst, ◌∙◌, arith}
use Rattle.std.specs.Prelude.{nat_le, nat_lt, filter, is_some}
use Rattle.std.specs.List.{list_all}
use Rattle.std.proofs.lemmas.Bool.{and_parts, and_from, and_right, leb-true, leb-false, le-leb, lt-ltb}
use Rattle.std.proofs.lemmas.Option.{same_Some}
use Rattle.std.proofs.lemmas.List.Elements.{filter-append}
use Rattle.tla_token.specs.declared.place.Place.{Place}
use Rattle.tla_token.specs.declared.rule.Rule.{Rule}
use Rattle.tla_token.specs.declared.rule.Rule.TheVariants.{NotAscii, LeftOutWord, NumberTooBig, BadToken, TooMany, TooDeep, Syntax}
use Rattle.tla_token.specs.declared.rule.Refusal.{Refusal}
use Rattle.tla_token.specs.Limits.{past_numbers, most_tokens}
use Rattle.tla_token.specs.Places.{place_at}
use Rattle.tla_token.specs.Rules.{rule_number}
use Rattle.tla_token.specs.Lexemes.{Kind, name, number, string, one, other}
use Rattle.tla_token.specs.Tokens.{Token, holds_mark}
use Rattle.tla_token.specs.Offences.{Offence, offence_if, kind_offences}
use Rattle.tla_token.specs.AlgorithmOffences.{is_left_out, left_out, number_offences, too_many_tokens, algorithm_offences}
use Rattle.tla_tree.specs.FirstStop.{to_end, StopRule}
use Rattle.pcal_tree.specs.Algorithm.{Algorithm}
use Rattle.pcal_tree.specs.AlgorithmTokens.{views}
use Rattle.pcal_tree.specs.Grammar as grammar
use Rattle.pcal_tree.specs.Grammar.{Spells}
use Rattle.pcal_tree.specs.Offences.{first}
use Rattle.pcal_tree.specs.OffencesSyntax.{algorithms, RefusesTokens}
use Rattle.module_tree.specs.TextFront.{Text}
use Rattle.module_tree.specs.AlgorithmText.{AlgorithmText, algorithm_in, algorithm_tokens}
use Rattle.module_tree.specs.FileOffences.{file_offences, is_splitting, splitting_offences}
use Rattle.module_tree.specs.laws.Kept.{IsFine}
use Rattle.module_tree.proofs.FineFiles.{all_more, small_kind, fine, fine_without}
use Rattle.module_tree.proofs.WalkPlace.{both_empty}
use Rattle.module_tree.proofs.WalkKept.{all_fine_in}
use Rattle.module_tree.proofs.SplitWhole.{some_algorithm}
use Rattle.algorithm_answer.specs.Answered.{or_counts}
use Rattle.algorithm_answer.specs.TokensRefused.{placed}
use Rattle.file_answer.specs.Refusals.{or_else, counting, up_to, of_spelling}
use Rattle.file_answer.specs.Spelling.{of_rules, syntax_at, AreRead, AreCounted, OfAlgorithm, AnswersRewriting}
use Rattle.file_answer.specs.Holds.{HoldsTree}
use Rattle.file_answer.proofs.OneAnswer.{asked, asked_alone}

-- ---- rules that a rewriting looks at

abbrev pub is_asked : Rule → Bool
is_asked r = nat_le (rule_number r) of_spelling

abbrev pub asks : Offence → Bool
asks o = is_asked o.0

abbrev pub Asked : List Offence → Type 0
Asked os = list_all asks os ≡ true

-- an offence that is of such a rule, if there is one
pub if_all : (p : Rule → Bool) (b : Bool) (r : Rule) (at : ℕ) → p r ≡ true → list_all (λ (o : Offence). p o.0) (offence_if b r at) ≡ true
if_all p true r at h = and_from (p r) true h refl
if_all p false r at h = refl

-- what is asked and not refused is not there
none_asked : (x : Text) (os : List Offence) → Asked os → up_to of_spelling (placed x os) ≡ [] → os ≡ []
none_asked x [] h e = refl
none_asked x (o ∷ os) h e =
    let k = (and_parts (asks o) (list_all asks os) h).0 in
    let r : Refusal = record { rule = o.0; place = place_at x o.1 } in
    let f : r ∷ up_to of_spelling (placed x os) ≡ [] = ap (λ (b : Bool). cond b (r ∷ up_to of_spelling (placed x os)) (up_to of_spelling (placed x os))) (sym k) ∙ e in
    absurd cc

less : (m n k : ℕ) → nat_le m n ≡ true → nat_le n k ≡ true → nat_le m k ≡ true
less m n k h g = (let a = leb-true m n h in let b = leb-true n k g in le-leb m k (omega (arith, a, b)))

pub rules_asked : (n m : ℕ) → nat_le m of_spelling ≡ true → (os : List Offence) → Asked (of_rules n m os)
rules_asked n m low [] = refl
rules_asked n m low (o ∷ os) = by (nat_le n (rule_number o.0) && nat_le (rule_number o.0) m) refl (rules_asked n m low os)
  where
    by : (k : Bool) → (nat_le n (rule_number o.0) && nat_le (rule_number o.0) m) ≡ k → Asked (of_rules n m os) → Asked (of_rules n m (o ∷ os))
    by true k deeper =
        let up : nat_le (rule_number o.0) m ≡ true = (and_parts (nat_le n (rule_number o.0)) (nat_le (rule_number o.0) m) k).1 in
        ap (λ (b : Bool). list_all asks (cond b (o ∷ of_rules n m os) (of_rules n m os))) k ∙ and_from (asks o) (list_all asks (of_rules n m os)) (less (rule_number o.0) m of_spelling up low) deeper
    by false k deeper = ap (λ (b : Bool). list_all asks (cond b (o ∷ of_rules n m os) (of_rules n m os))) k ∙ deeper

-- ---- tokens

pub left_all : (p : Rule → Bool) → p LeftOutWord ≡ true → (ts : List Token) → list_all (λ (o : Offence). p o.0) (left_out ts) ≡ true
left_all p h [] = refl
left_all p h (t ∷ ts) =
    all_more (λ (o : Offence). p o.0) (offence_if (is_left_out t.kind ts) LeftOutWord t.at) (left_out ts) (if_all p (is_left_out t.kind ts) LeftOutWord t.at h) (left_all p h ts)

kind_asked : (at : ℕ) (k : Kind) → Asked (kind_offences true at k)
kind_asked at (number n) = if_all is_asked (true && nat_le past_numbers n) NumberTooBig at refl
kind_asked at (string w) = if_all is_asked (true && holds_mark w) BadToken at refl
kind_asked at (name w) = refl
kind_asked at (one s) = refl
kind_asked at (other w) = refl

numbers_asked : (ts : List Token) → Asked (number_offences ts)
numbers_asked [] = refl
numbers_asked (t ∷ ts) = all_more asks (kind_offences true t.at t.kind) (number_offences ts) (kind_asked t.at t.kind) (numbers_asked ts)

pub many_all : (p : Rule → Bool) → p TooMany ≡ true → (ts : List Token) → list_all (λ (o : Offence). p o.0) (too_many_tokens ts) ≡ true
many_all p h ts = by (drop most_tokens ts) refl
  where
    by : (us : List Token) → drop most_tokens ts ≡ us → list_all (λ (o : Offence). p o.0) (too_many_tokens ts) ≡ true
    by [] e = rw e refl
    by (u ∷ us) e = rw e (and_from (p TooMany) true h refl)

pub tokens_asked : (ts : List Token) → Asked (algorithm_offences ts)
tokens_asked ts =
    all_more asks (left_out ts) (number_offences ts ++ too_many_tokens ts) (left_all is_asked refl ts) (all_more asks (number_offences ts) (too_many_tokens ts) (numbers_asked ts) (many_all is_asked refl ts))

small_here : (at n : ℕ) → kind_offences true at (number n) ≡ [] → nat_lt n past_numbers ≡ true
small_here at n h = by (nat_le past_numbers n) refl
  where
    by : (k : Bool) → nat_le past_numbers n ≡ k → nat_lt n past_numbers ≡ true
    by true k = (let f : ◌≡◌ {A = List Offence} ((NumberTooBig, at) ∷ []) [] = ap (λ (b : Bool). offence_if b NumberTooBig at) (sym k) ∙ h in absurd cc)
    by false k = lt-ltb n past_numbers (leb-false past_numbers n k)

all_small : (ts : List Token) → number_offences ts ≡ [] → list_all small_kind (map (λ t. t.kind) ts) ≡ true
all_small [] h = refl
all_small (t ∷ ts) h =
    let b = both_empty (kind_offences true t.at t.kind) (number_offences ts) h in
    and_from (small_kind t.kind) (list_all small_kind (map (λ t. t.kind) ts)) (by t.kind b.0) (all_small ts b.1)
  where
    by : (k : Kind) → kind_offences true t.at k ≡ [] → small_kind k ≡ true
    by (number n) e = small_here t.at n e
    by (string w) e = refl
    by (name w) e = refl
    by (one s) e = refl
    by (other w) e = refl

-- ---- nothing of what is asked is wrong

pub none_first : (rs : List Refusal) → first rs ≡ None → rs ≡ []
none_first [] e = refl
none_first (r ∷ rs) e = absurd cc

no_bytes : (b more : List Refusal) → up_to of_spelling (or_else b more) ≡ [] → up_to of_spelling b ≡ []
no_bytes [] more e = refl
no_bytes (r ∷ rs) more e = e

no_parts : (b more : List Refusal) → b ≡ [] → up_to of_spelling (or_else b more) ≡ [] → up_to of_spelling more ≡ []
no_parts b more f e = ap (λ (b : List Refusal). up_to of_spelling (or_else b more)) (sym f) ∙ e

kept_both : (xs ys : List Refusal) → up_to of_spelling (xs ++ ys) ≡ [] → (up_to of_spelling xs ≡ []) × (up_to of_spelling ys ≡ [])
kept_both xs ys e = both_empty (up_to of_spelling xs) (up_to of_spelling ys) (sym (filter-append (λ (r : Refusal). nat_le (rule_number r.rule) of_spelling) xs ys) ∙ e)

-- tokens are refused by one of two rules
pub stop_all : (p : Rule → Bool) → p TooDeep ≡ true → p Syntax ≡ true → (s : grammar.Syntax) (ts : List Token) (end : Place) (r : Refusal) → RefusesTokens s ts end r → p r.rule ≡ true
stop_all p deep syntax s ts end r f = by f.stops.rule
  where
    by : StopRule (algorithms s) (take (suc f.passed) (to_end (views ts))) r.rule → p r.rule ≡ true
    by (inl h) = ap p h.0 ∙ deep
    by (inr h) = ap p h.0 ∙ syntax

pub positive : (r : Rule) → nat_le 1 (rule_number r) ≡ true
positive NotAscii = refl
positive r = refl

-- the rules 1 to 4 and 5 to 10 are those by which a file is refused before its algorithm is read
none_splitting : (os : List Offence) → of_rules 1 4 os ≡ [] → of_rules 5 10 os ≡ [] → filter is_splitting os ≡ []
none_splitting [] h g = refl
none_splitting (o ∷ os) h g = by (nat_le (rule_number o.0) 4) refl (nat_le (rule_number o.0) 10) refl (none_splitting os)
  where
    n : ℕ
    n = rule_number o.0

    by : (i : Bool) → nat_le n 4 ≡ i → (j : Bool) → nat_le n 10 ≡ j → (of_rules 1 4 os ≡ [] → of_rules 5 10 os ≡ [] → filter is_splitting os ≡ []) → filter is_splitting (o ∷ os) ≡ []
    by true i j jj deeper =
        let f : o ∷ of_rules 1 4 os ≡ [] = ap (λ (b : Bool). cond b (o ∷ of_rules 1 4 os) (of_rules 1 4 os)) (sym (and_from (nat_le 1 n) (nat_le n 4) (positive o.0) i)) ∙ h in
        absurd cc
    by false i true j deeper =
        let low : 4 < n = leb-false n 4 i in
        let f : o ∷ of_rules 5 10 os ≡ [] = ap (λ (b : Bool). cond b (o ∷ of_rules 5 10 os) (of_rules 5 10 os)) (sym (and_from (nat_le 5 n) (nat_le n 10) (le-leb 5 n (omega (arith, low))) j)) ∙ g in
        absurd cc
    by false i false j deeper =
        let h1 : of_rules 1 4 os ≡ [] = ap (λ (b : Bool). cond b (o ∷ of_rules 1 4 os) (of_rules 1 4 os)) (sym (and_right (nat_le 1 n) (nat_le n 4) i)) ∙ h in
        let g1 : of_rules 5 10 os ≡ [] = ap (λ (b : Bool). cond b (o ∷ of_rules 5 10 os) (of_rules 5 10 os)) (sym (and_right (nat_le 5 n) (nat_le n 10) j)) ∙ g in
        ap (λ (b : Bool). cond b (o ∷ filter is_splitting os) (filter is_splitting os)) j ∙ deeper h1 g1

-- what is so of a file that is not refused
pub record IsUnrefused (x : Text) (o : Option AlgorithmText) : Type 0 where
  pub splits : splitting_offences x ≡ []
  pub tokens : (a : AlgorithmText) → o ≡ Some a → algorithm_offences (algorithm_tokens x a) ≡ []
  pub spelled : (a : AlgorithmText) → o ≡ Some a → (g : Algorithm) × Spells (syntax_at a) (algorithm_tokens x a) g

unrefused : (x : Text) → AnswersRewriting x None → IsUnrefused x (algorithm_in x)
unrefused x (w, h, e) = of_algorithm (algorithm_in x) h.algorithm
  where
    none : up_to of_spelling (asked w) ≡ []
    none = sym (asked_alone w h.names h.labels) ∙ none_first (up_to of_spelling (counting w)) e

    os : List Offence
    os = file_offences x

    more : List Refusal
    more = w.parts ++ (w.tokens ++ or_counts w.syntax w.counts)

    bytes : of_rules 1 4 os ≡ []
    bytes = none_asked x (of_rules 1 4 os) (rules_asked 1 4 refl os) (ap (up_to of_spelling) (sym h.bytes) ∙ no_bytes w.bytes more none)

    rest : up_to of_spelling more ≡ []
    rest = no_parts w.bytes more (h.bytes ∙ ap (placed x) bytes) none

    kept : (up_to of_spelling w.parts ≡ []) × (up_to of_spelling (w.tokens ++ or_counts w.syntax w.counts) ≡ [])
    kept = kept_both w.parts (w.tokens ++ or_counts w.syntax w.counts) rest

    parts : of_rules 5 10 os ≡ []
    parts = none_asked x (of_rules 5 10 os) (rules_asked 5 10 refl os) (ap (up_to of_spelling) (sym h.parts) ∙ kept.0)

    last : (up_to of_spelling w.tokens ≡ []) × (up_to of_spelling (or_counts w.syntax w.counts) ≡ [])
    last = kept_both w.tokens (or_counts w.syntax w.counts) kept.1

    splits : splitting_offences x ≡ []
    splits = none_splitting os bytes parts

    spells : (a : AlgorithmText) (r : Option Refusal) → AreRead x a r → AreCounted x a r w.counts → up_to of_spelling (or_counts r w.counts) ≡ [] → (g : Algorithm) × Spells (syntax_at a) (algorithm_tokens x a) g
    spells a None p k f = (k.0, k.1)
    spells a (Some r) p k f = (let g : r ∷ [] ≡ [] = ap (λ (b : Bool). cond b (r ∷ []) []) (sym (stop_all is_asked refl refl (syntax_at a) (algorithm_tokens x a) (place_at x a.rest.to) r p)) ∙ f in absurd cc)

    of_algorithm : (o : Option AlgorithmText) → OfAlgorithm x w o → IsUnrefused x o
    of_algorithm None k = record { splits = splits; tokens = λ a f. absurd cc; spelled = λ a f. absurd cc }
    of_algorithm (Some a) k =
        let ts : algorithm_offences (algorithm_tokens x a) ≡ [] =
        none_asked x (algorithm_offences (algorithm_tokens x a)) (tokens_asked (algorithm_tokens x a)) (ap (up_to of_spelling) (sym k.0) ∙ last.0) in
        let g = spells a w.syntax k.1 k.2 last.1 in
        record {
          splits = splits;
          tokens = λ b f. subst (λ (a : AlgorithmText). algorithm_offences (algorithm_tokens x a) ≡ []) (same_Some a b f) ts;
          spelled = λ b f. subst (λ (a : AlgorithmText). (g : Algorithm) × Spells (syntax_at a) (algorithm_tokens x a) g) (same_Some a b f) g;
        }

pub unrefused_is_fine : (x : Text) → AnswersRewriting x None → IsFine x
unrefused_is_fine x h = by (algorithm_in x) refl (unrefused x h)
  where
    by : (o : Option AlgorithmText) → algorithm_in x ≡ o → IsUnrefused x (algorithm_in x) → IsFine x
    by None e u = fine_without x u.splits e
    by (Some a) e u =
        let n = both_empty (left_out (algorithm_tokens x a)) (number_offences (algorithm_tokens x a) ++ too_many_tokens (algorithm_tokens x a)) (u.tokens a e) in
        let m = both_empty (number_offences (algorithm_tokens x a)) (too_many_tokens (algorithm_tokens x a)) n.1 in
        fine x a u.splits e (all_small (algorithm_tokens x a) m.0)

-- ---- it holds a tree

pub unrefused_holds : (x : Text) → AnswersRewriting x None → (g : Algorithm) × HoldsTree x g
unrefused_holds x h = by (algorithm_in x) refl (unrefused x h)
  where
    by : (o : Option AlgorithmText) → algorithm_in x ≡ o → IsUnrefused x (algorithm_in x) → (g : Algorithm) × HoldsTree x g
    by None e u =
        let there : is_some (algorithm_in x) ≡ true = some_algorithm x (all_fine_in x (unrefused_is_fine x h)).parts in
        let f : false ≡ true = rw e at there in
        absurd cc
    by (Some a) e u = (let g = u.spelled a e in (g.0, record { text = a; is_text = e; syntax = syntax_at a; spelled = g.1 }))
