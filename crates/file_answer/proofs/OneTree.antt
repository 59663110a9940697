-- A text has one algorithm at most.
use Rattle.std.proofs.Common.{◌≡◌, ◌⊎◌, inl, inr, ℕ, List, sym, subst, ◌∙◌}
use Rattle.std.proofs.lemmas.Option.{same_Some}
use Rattle.tla_token.specs.Tokens.{Token, TokAlgorithm}
use Rattle.tla_token.proofs.Unique.{one_algorithm}
use Rattle.pcal_tree.specs.Algorithm.{Algorithm}
use Rattle.pcal_tree.specs.Grammar.{Syntax, p_syntax, c_syntax, Spells, SpellsP, SpellsC}
use Rattle.module_tree.specs.AlgorithmText.{AlgorithmText, algorithm_tokens}
use Rattle.p_reading.proofs.WholeAlgorithm as p_whole
use Rattle.c_reading.proofs.WholeAlgorithm as c_whole
use Rattle.c_reading.proofs.OneSyntax.{no_tree_in_both}
use Rattle.promise.specs.Headline.{Stands}
use Rattle.file_answer.specs.Holds.{HoldsTree}

-- in one of the syntaxes
abbrev pub InOne : List Token → Algorithm → Type 0
InOne ts a = SpellsP ts a ⊎ SpellsC ts a

pub in_one : (s : Syntax) (ts : List Token) (a : Algorithm) → Spells s ts a → InOne ts a
in_one p_syntax ts a h = inl h
in_one c_syntax ts a h = inr h

-- the same tokens spell one
one_spelled : (ts : List Token) (a b : Algorithm) → InOne ts a → InOne ts b → a ≡ b
one_spelled ts a b (inl h) (inl k) = p_whole.one_tree ts a b h k
one_spelled ts a b (inl h) (inr k) = absurd (no_tree_in_both ts a b h k)
one_spelled ts a b (inr h) (inl k) = absurd (no_tree_in_both ts b a k h)
one_spelled ts a b (inr h) (inr k) = c_whole.one_tree ts a b h k

pub one_held : (x : List ℕ) (g h : Algorithm) → HoldsTree x g → HoldsTree x h → g ≡ h
one_held x g h s t =
    let same : t.text ≡ s.text = same_Some t.text s.text (sym t.is_text ∙ s.is_text) in
    let other = in_one t.syntax (algorithm_tokens x t.text) h t.spelled in
    one_spelled (algorithm_tokens x s.text) g h (in_one s.syntax (algorithm_tokens x s.text) g s.spelled) (subst (λ (a : AlgorithmText). InOne (algorithm_tokens x a) h) same other)

pub one_stands : (x : List ℕ) (a b : Algorithm) → Stands x a → Stands x b → a ≡ b
one_stands x a b s t =
    let same : t.text ≡ s.text = same_Some t.text s.text (sym t.is_text ∙ s.is_text) in
    let tok = subst (λ (o : AlgorithmText). TokAlgorithm x o.from o.rest.to t.tokens) same t.tok in
    let tokens = one_algorithm x s.text.from s.text.rest.to t.tokens s.tokens tok s.tok in
    one_spelled s.tokens a b s.spelled (subst (λ (ts : List Token). InOne ts b) tokens t.spelled)
