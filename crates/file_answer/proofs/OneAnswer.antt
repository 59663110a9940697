-- A file has just one answer to a rewriting: its tokens pass or are refused at one of them, and spell one algorithm at most.
use Rattle.std.proofs.Common.{◌≡◌, ◌⊎◌, inl, inr, List, [], ◌∷◌, ◌++◌, Option, Some, None, refl, sym, ap, subst, ◌∙◌, append_assoc, append-nil}
use Rattle.std.specs.Prelude.{nat_le}
use Rattle.std.proofs.lemmas.List.Elements.{filter-append}
use Rattle.tla_token.specs.declared.place.Place.{Place}
use Rattle.tla_token.specs.declared.rule.Refusal.{Refusal}
use Rattle.tla_token.specs.Places.{place_at}
use Rattle.tla_token.specs.Rules.{rule_number}
use Rattle.tla_token.specs.Tokens as text
use Rattle.tla_token.specs.AlgorithmOffences.{algorithm_offences}
use Rattle.pcal_tree.specs.Algorithm.{Algorithm}
use Rattle.pcal_tree.specs.Grammar.{Syntax, p_syntax, c_syntax, Spells}
use Rattle.pcal_tree.specs.Offences.{first}
use Rattle.pcal_tree.specs.OffencesCounts.{count_offences}
use Rattle.pcal_tree.specs.OffencesSyntax.{PassesTokens, RefusesTokens}
use Rattle.pcal_tree.proofs.RefusedOnce.{refused_once, passes_or_refused}
use Rattle.syntax_reading.proofs.StopsWithin.{one_of_both}
use Rattle.p_reading.specs.ReadAlgorithm as p
use Rattle.p_reading.proofs.StopsWithin as p_within
use Rattle.p_reading.proofs.WholeAlgorithm as p_whole
use Rattle.c_reading.specs.ReadAlgorithm as c
use Rattle.c_reading.proofs.StopsWithin as c_within
use Rattle.c_reading.proofs.WholeAlgorithm as c_whole
use Rattle.module_tree.specs.TextFront.{Text}
use Rattle.module_tree.specs.AlgorithmText.{AlgorithmText, algorithm_in, algorithm_tokens}
use Rattle.module_tree.specs.FileOffences.{file_offences}
use Rattle.algorithm_answer.specs.Answered.{or_counts}
use Rattle.algorithm_answer.specs.TokensRefused.{placed}
use Rattle.file_answer.specs.Refusals.{Wrong, or_else, counting, up_to, of_spelling, refusal_of}
use Rattle.file_answer.specs.Spelling.{of_rules, syntax_at, AreRead, AreCounted, OfAlgorithm, AreLater, IsSpelling, AnswersRewriting}

-- ---- names and labels don't count

-- what counts without them
abbrev pub asked : Wrong → List Refusal
asked w = or_else w.bytes (w.parts ++ (w.tokens ++ or_counts w.syntax w.counts))

later_both : (xs ys : List Refusal) → AreLater xs → AreLater ys → AreLater (or_else xs ys)
later_both [] ys h k = k
later_both (x ∷ xs) ys h k = h

up_to_front : (xs ys : List Refusal) → AreLater ys → up_to of_spelling (xs ++ ys) ≡ up_to of_spelling xs
up_to_front xs ys h =
    filter-append (λ (r : Refusal). nat_le (rule_number r.rule) of_spelling) xs ys ∙ ap (λ (zs : List Refusal). up_to of_spelling xs ++ zs) h ∙ append-nil (up_to of_spelling xs)

regrouped : (a b d e : List Refusal) → a ++ (b ++ (d ++ e)) ≡ (a ++ (b ++ d)) ++ e
regrouped a b d e = sym (append_assoc a (b ++ d) e ∙ ap (λ (u : List Refusal). a ++ u) (append_assoc b d e))

pub asked_alone : (w : Wrong) → AreLater w.names → AreLater w.labels → up_to of_spelling (counting w) ≡ up_to of_spelling (asked w)
asked_alone w h k = by w.bytes w.syntax
  where
    later : List Refusal
    later = or_else w.names w.labels

    by : (b : List Refusal) (s : Option Refusal)
        → up_to of_spelling (or_else b (w.parts ++ (w.tokens ++ or_counts s (w.counts ++ later)))) ≡ up_to of_spelling (or_else b (w.parts ++ (w.tokens ++ or_counts s w.counts)))
    by (r ∷ rs) s = refl
    by [] (Some r) = refl
    by [] None = ap (up_to of_spelling) (regrouped w.parts w.tokens w.counts later) ∙ up_to_front (w.parts ++ (w.tokens ++ w.counts)) later (later_both w.names w.labels h k)

-- ---- at most one answer

same_syntax : (x : Text) (a : AlgorithmText) (r q : Option Refusal) → AreRead x a r → AreRead x a q → r ≡ q
same_syntax x a None None h k = refl
same_syntax x a None (Some q) h k = absurd (passes_or_refused (syntax_at a) (algorithm_tokens x a) (place_at x a.rest.to) q h k)
same_syntax x a (Some r) None h k = absurd (passes_or_refused (syntax_at a) (algorithm_tokens x a) (place_at x a.rest.to) r k h)
same_syntax x a (Some r) (Some q) h k = ap (λ (r : Refusal). Some r) (refused_once (syntax_at a) (algorithm_tokens x a) (place_at x a.rest.to) r q h k)

one_tree : (s : Syntax) (ts : List text.Token) (g h : Algorithm) → Spells s ts g → Spells s ts h → g ≡ h
one_tree p_syntax ts g h a b = p_whole.one_tree ts g h a b
one_tree c_syntax ts g h a b = c_whole.one_tree ts g h a b

same_counts : (x : Text) (a : AlgorithmText) (r q : Option Refusal) (d e : List Refusal) → r ≡ q → AreCounted x a r d → AreCounted x a q e → d ≡ e
same_counts x a None None d e s h k = h.2 ∙ ap count_offences (one_tree (syntax_at a) (algorithm_tokens x a) h.0 k.0 h.1 k.1) ∙ sym k.2
same_counts x a (Some r) (Some q) d e s h k = h ∙ sym k
same_counts x a None (Some q) d e s h k = absurd cc
same_counts x a (Some r) None d e s h k = absurd cc

same_algorithm : (x : Text) (w v : Wrong) (o : Option AlgorithmText) → OfAlgorithm x w o → OfAlgorithm x v o → (w.tokens ≡ v.tokens) × (w.syntax ≡ v.syntax) × (w.counts ≡ v.counts)
same_algorithm x w v None h k = (h.0 ∙ sym k.0, h.1 ∙ sym k.1, h.2 ∙ sym k.2)
same_algorithm x w v (Some a) h k =
    let s = same_syntax x a w.syntax v.syntax h.1 k.1 in
    (h.0 ∙ sym k.0, s, same_counts x a w.syntax v.syntax w.counts v.counts s h.2 k.2)

-- what is wrong by the rules on spelling
pub record SameSpelling (w v : Wrong) : Type 0 where
  pub bytes : w.bytes ≡ v.bytes
  pub parts : w.parts ≡ v.parts
  pub tokens : w.tokens ≡ v.tokens
  pub syntax : w.syntax ≡ v.syntax
  pub counts : w.counts ≡ v.counts

pub same_spelling : (x : Text) (w v : Wrong) → IsSpelling x w → IsSpelling x v → SameSpelling w v
same_spelling x w v h k =
    let a = same_algorithm x w v (algorithm_in x) h.algorithm k.algorithm in
    record { bytes = h.bytes ∙ sym k.bytes; parts = h.parts ∙ sym k.parts; tokens = a.0; syntax = a.1; counts = a.2 }

same_asked : (x : Text) (w v : Wrong) → IsSpelling x w → IsSpelling x v → asked w ≡ asked v
same_asked x w v h k = (let a = same_spelling x w v h k in λ i. or_else (a.bytes i) (a.parts i ++ (a.tokens i ++ or_counts (a.syntax i) (a.counts i))))

pub one_answer : (x : Text) (r q : Option Refusal) → AnswersRewriting x r → AnswersRewriting x q → r ≡ q
one_answer x r q (w, h, e) (v, k, f) =
    sym e ∙ ap first (asked_alone w h.names h.labels ∙ ap (up_to of_spelling) (same_asked x w v h k) ∙ sym (asked_alone v k.names k.labels)) ∙ f

-- ---- one at least

pub read_or_refused : (s : Syntax) (ts : List text.Token) (end : Place) → ((a : Algorithm) × PassesTokens s ts × Spells s ts a) ⊎ ((r : Refusal) × RefusesTokens s ts end r)
read_or_refused p_syntax = one_of_both p_syntax p.read_algorithm p.read_limited_algorithm p_within.reads_within
read_or_refused c_syntax = one_of_both c_syntax c.read_algorithm c.read_limited_algorithm c_within.reads_within

-- what is wrong with x, where this is wrong with its algorithm
abbrev pub wrong : Text → List Refusal → Option Refusal → List Refusal → Wrong
wrong x tokens syntax counts = record {
  bytes = placed x (of_rules 1 4 (file_offences x));
  parts = placed x (of_rules 5 10 (file_offences x));
  tokens = tokens;
  syntax = syntax;
  counts = counts;
  names = [];
  labels = [];
}

answered : (x : Text) (tokens : List Refusal) (syntax : Option Refusal) (counts : List Refusal) → OfAlgorithm x (wrong x tokens syntax counts) (algorithm_in x) → (r : Option Refusal) × AnswersRewriting x r
answered x tokens syntax counts h =
    (refusal_of of_spelling (wrong x tokens syntax counts), (wrong x tokens syntax counts, record { bytes = refl; parts = refl; algorithm = h; names = refl; labels = refl }, refl))

pub some_answer : (x : Text) → (r : Option Refusal) × AnswersRewriting x r
some_answer x = by (algorithm_in x) refl
  where
    there : (a : AlgorithmText) → algorithm_in x ≡ Some a
        → ((g : Algorithm) × PassesTokens (syntax_at a) (algorithm_tokens x a) × Spells (syntax_at a) (algorithm_tokens x a) g) ⊎ ((r : Refusal) × RefusesTokens (syntax_at a) (algorithm_tokens x a) (place_at x a.rest.to) r)
        → (r : Option Refusal) × AnswersRewriting x r
    there a e (inl (g, h, s)) =
        let tokens = placed x (algorithm_offences (algorithm_tokens x a)) in
        answered x tokens None (count_offences g) (subst (λ (o : Option AlgorithmText). OfAlgorithm x (wrong x tokens None (count_offences g)) o) (sym e) (refl, h, (g, s, refl)))
    there a e (inr (r, f)) =
        let tokens = placed x (algorithm_offences (algorithm_tokens x a)) in
        answered x tokens (Some r) [] (subst (λ (o : Option AlgorithmText). OfAlgorithm x (wrong x tokens (Some r) []) o) (sym e) (refl, f, refl))

    by : (o : Option AlgorithmText) → algorithm_in x ≡ o → (r : Option Refusal) × AnswersRewriting x r
    by None e = answered x [] None [] (subst (λ (o : Option AlgorithmText). OfAlgorithm x (wrong x [] None []) o) (sym e) (refl, refl, refl))
    by (Some a) e = there a e (read_or_refused (syntax_at a) (algorithm_tokens x a) (place_at x a.rest.to))
