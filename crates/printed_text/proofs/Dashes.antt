-- An algorithm begins with a dash, and each dash of a printed text is in one of its tokens: so no second one begins in it; nor do options behind it.
use Rattle.std.proofs.Common.{◌≡◌, ℕ, suc, ◌+◌, ◌<◌, ◌≤◌, nat_eq, nat_le, nat_lt, Bool, true, false, ◌||◌, List, [], ◌∷◌, ◌++◌, length, map, refl, sym, ap, subst, ◌∙◌, arith, append_assoc, codes}
use Rattle.std.specs.Prelude.{if◌then◌else◌}
use Rattle.std.specs.List.{list_all}
use Rattle.std.proofs.lemmas.Bool.{and_parts, and_from, both_ways, eqb-true, le-leb, lt-ltb}
use Rattle.tla_tree.specs.laws.InText.{ends_word}
use Rattle.pcal_tree.specs.Grammar.{Syntax, p_syntax, c_syntax}
use Rattle.tla_token.specs.Lexemes.{is_blank}
use Rattle.tla_token.specs.Tokens.{Piece, blank, block, line, lexeme, bytes_of, text_of, AllFit}
use Rattle.tla_token.specs.Offences.{Part, sound}
use Rattle.module_tree.specs.TextFront.{Text}
use Rattle.module_tree.specs.Beginnings.{begins_algorithm, is_options, index_if, all_at}
use Rattle.module_tree.specs.ModuleParts.{kind_in}
use Rattle.module_tree.specs.AlgorithmText.{Stage, is_past, after_part, IndexedPart, Inside, with_part, is_token_byte, in_tokens}
use Rattle.module_tree.proofs.InsidePieces.{inside_pieces}
use Rattle.module_tree.specs.laws.Swaps.{AddsNoOptions}
use Rattle.module_tree.proofs.OptionsKept.{none_elsewhere}
use Rattle.module_tree.proofs.OptionsSwapped.{Apart, apart_none, free_edge}
use Rattle.module_tree.proofs.OnlyBeginnings.{none_anywhere}
use Rattle.printed_text.specs.Rewritten.{gap}
use Rattle.printed_text.proofs.WholeText.{front_word}
use Rattle.printed_text.proofs.Chunks.{uncommented}

-- ---- where algorithms begin in a text that goes on

-- in u where f holds, and behind it
begun_both : (f : ℕ → Bool) (n : ℕ) (u y : Text) → ((k : ℕ) → n ≤ k → k < n + length u → f k ≡ true) → list_all f (all_at begins_algorithm (n + length u) y) ≡ true
    → list_all f (all_at begins_algorithm n (u ++ y)) ≡ true
begun_both f n [] y h e = ap (λ (k : ℕ). list_all f (all_at begins_algorithm k y)) (none n) ∙ e
  where
    none : (n : ℕ) → n ≡ n + 0
    none n = omega arith
begun_both f n (b ∷ u) y h e =
    by (begins_algorithm (b ∷ (u ++ y)))
    (begun_both f (suc n) u y (λ k l m. h k (omega (arith, l)) (omega (arith, m))) (ap (λ (k : ℕ). list_all f (all_at begins_algorithm k y)) further ∙ e))
  where
    further : suc n + length u ≡ n + suc (length u)
    further = omega arith

    by : (t : Bool) → list_all f (all_at begins_algorithm (suc n) (u ++ y)) ≡ true → list_all f (index_if t n (all_at begins_algorithm (suc n) (u ++ y))) ≡ true
    by true g = and_from (f n) (list_all f (all_at begins_algorithm (suc n) (u ++ y))) (h n (omega arith) (omega arith)) g
    by false g = g

-- none at a blank
pub blank_none : (b : ℕ) (s : Text) → is_blank b ≡ true → begins_algorithm (b ∷ s) ≡ false
blank_none b s h = by (nat_eq 45 b) refl
  where
    by : (k : Bool) → nat_eq 45 b ≡ k → begins_algorithm (b ∷ s) ≡ false
    by true k = absurd (both_ways (is_blank b) (ap is_blank (sym (eqb-true 45 b k))) h)
    by false k = rw k refl

-- ---- in the pieces

or_true : (x y : Bool) → y ≡ true → (x || y) ≡ true
or_true true y h = refl
or_true false y h = h

or_first : (x y : Bool) → x ≡ true → (x || y) ≡ true
or_first true y h = refl
or_first false y h = absurd cc

more_in : (p : IndexedPart) (ps : List IndexedPart) (ns : List ℕ) → list_all (in_tokens ps) ns ≡ true → list_all (in_tokens (p ∷ ps)) ns ≡ true
more_in p ps [] h = refl
more_in p ps (n ∷ ns) h =
    let k = and_parts (in_tokens ps n) (list_all (in_tokens ps) ns) h in
    and_from (in_tokens (p ∷ ps) n) (list_all (in_tokens (p ∷ ps)) ns) (or_true (is_token_byte n p) (in_tokens ps n) k.0) (more_in p ps ns k.1)

-- those in the first piece are in it as a token
first_in : (n : ℕ) (p : Piece) (qs : List IndexedPart) (ps : List Piece) (y : Text) → AllFit (p ∷ ps) → uncommented (p ∷ ps) ≡ true
    → list_all (in_tokens ((n, sound p) ∷ qs)) (all_at begins_algorithm (n + length (bytes_of p)) y) ≡ true
    → list_all (in_tokens ((n, sound p) ∷ qs)) (all_at begins_algorithm n (bytes_of p ++ y)) ≡ true
first_in n (blank b) qs ps y f u e =
    ap (λ (t : Bool). list_all (in_tokens ((n, sound (blank b)) ∷ qs)) (index_if t n (all_at begins_algorithm (suc n) y))) (blank_none b y f.0)
    ∙ ap (λ (k : ℕ). list_all (in_tokens ((n, sound (blank b)) ∷ qs)) (all_at begins_algorithm k y)) (one_more n) ∙ e
  where
    one_more : (n : ℕ) → suc n ≡ n + 1
    one_more n = omega arith
first_in n (block w) qs ps y f u e = absurd cc
first_in n (line w) qs ps y f u e = absurd cc
first_in n (lexeme k w) qs ps y f u e = begun_both (in_tokens ((n, sound (lexeme k w)) ∷ qs)) n w y here e
  where
    here : (j : ℕ) → n ≤ j → j < n + length w → in_tokens ((n, sound (lexeme k w)) ∷ qs) j ≡ true
    here j l m = or_first (is_token_byte j (n, sound (lexeme k w))) (in_tokens qs j) (and_from (nat_le n j) (nat_lt j (n + length w)) (le-leb n j l) (lt-ltb j (n + length w) m))

uncommented_rest : (p : Piece) (ps : List Piece) → uncommented (p ∷ ps) ≡ true → uncommented ps ≡ true
uncommented_rest (blank b) ps u = u
uncommented_rest (block w) ps u = absurd cc
uncommented_rest (line w) ps u = absurd cc
uncommented_rest (lexeme k w) ps u = u

pub dashes_in : (st : Stage) (n : ℕ) (ps : List Piece) (z : Text) → map (λ p. p.1) (inside_pieces st n ps).parts ≡ map sound ps → AllFit ps → uncommented ps ≡ true
    → ((k : ℕ) → all_at begins_algorithm k z ≡ []) → list_all (in_tokens (inside_pieces st n ps).parts) (all_at begins_algorithm n (text_of ps ++ z)) ≡ true
dashes_in st n [] z s h u none = ap (list_all (in_tokens (inside_pieces st n []).parts)) (none n)
dashes_in st n (p ∷ ps) z s h u none =
    by (is_past st) refl (λ e. dashes_in (after_part st (kind_in (sound p))) (n + length (bytes_of p)) ps z e h.1 (uncommented_rest p ps u) none)
  where
    rest : Inside
    rest = inside_pieces (after_part st (kind_in (sound p))) (n + length (bytes_of p)) ps

    by : (k : Bool) → is_past st ≡ k
        → (map (λ p. p.1) rest.parts ≡ map sound ps → list_all (in_tokens rest.parts) (all_at begins_algorithm (n + length (bytes_of p)) (text_of ps ++ z)) ≡ true)
        → list_all (in_tokens (inside_pieces st n (p ∷ ps)).parts) (all_at begins_algorithm n (text_of (p ∷ ps) ++ z)) ≡ true
    by true k deeper = (let e : ◌≡◌ {A = List Part} [] (sound p ∷ map sound ps) = rw k at s in absurd cc)
    by false k deeper =
        let is : inside_pieces st n (p ∷ ps) ≡ with_part (n, sound p) rest = ap (λ (k : Bool). if k then record { parts = []; stage = st; to = n } else with_part (n, sound p) rest) k in
        let all : ◌≡◌ {A = List Part} (sound p ∷ map (λ p. p.1) rest.parts) (sound p ∷ map sound ps) = ap (λ (i : Inside). map (λ p. p.1) i.parts) (sym is) ∙ s in
        let more : map (λ p. p.1) rest.parts ≡ map sound ps = cc in
        subst (λ (i : Inside). list_all (in_tokens i.parts) (all_at begins_algorithm n (text_of (p ∷ ps) ++ z)) ≡ true) (sym is)
        (ap (λ (u : Text). list_all (in_tokens ((n, sound p) ∷ rest.parts)) (all_at begins_algorithm n u)) (append_assoc (bytes_of p) (text_of ps) z)
        ∙ first_in n p rest.parts ps (text_of ps ++ z) h u (more_in (n, sound p) rest.parts _ (deeper more)))

-- ---- from its first word on

-- it begins at once, and all others are where f holds
pub record OthersIn (f : ℕ → Bool) (n : ℕ) (u : Text) : Type 0 where
  pub others : List ℕ
  pub all : all_at begins_algorithm n u ≡ n ∷ others
  pub within : list_all f others ≡ true

-- none begins within its first word
past_word : (b : Bool) (n : ℕ) (y : Text) → all_at begins_algorithm n (front_word b ++ y) ≡ index_if (begins_algorithm (front_word b ++ y)) n (all_at begins_algorithm (n + length (front_word b)) y)
past_word false n y = ap (λ (k : ℕ). index_if (begins_algorithm (codes "--algorithm" ++ y)) n (all_at begins_algorithm k y)) (eleven n)
  where
    eleven : (n : ℕ) → suc (suc (suc (suc (suc (suc (suc (suc (suc (suc (suc n)))))))))) ≡ n + 11
    eleven n = omega arith
past_word true n y = ap (λ (k : ℕ). index_if (begins_algorithm (codes "--fair" ++ y)) n (all_at begins_algorithm k y)) (six n)
  where
    six : (n : ℕ) → suc (suc (suc (suc (suc (suc n))))) ≡ n + 6
    six n = omega arith

pub others_in : (f : ℕ → Bool) (b : Bool) (n : ℕ) (y : Text) → begins_algorithm (front_word b ++ y) ≡ true → list_all f (all_at begins_algorithm (n + length (front_word b)) y) ≡ true → OthersIn f n (front_word b ++ y)
others_in f b n y h e = record {
  others = all_at begins_algorithm (n + length (front_word b)) y;
  all = past_word b n y ∙ ap (λ (t : Bool). index_if t n (all_at begins_algorithm (n + length (front_word b)) y)) h;
  within = e;
}

-- none begins in the blank behind it
pub gap_none : (s : Syntax) (rest z : Text) (n : ℕ) → all_at begins_algorithm n z ≡ [] → (k : ℕ) → all_at begins_algorithm k (gap s rest ++ z) ≡ []
gap_none c_syntax rest z n e k = none_anywhere begins_algorithm n k z e
gap_none p_syntax rest z n e k = by (ends_word rest)
  where
    by : (b : Bool) → all_at begins_algorithm k ((if b then [] else codes " ") ++ z) ≡ []
    by true = none_anywhere begins_algorithm n k z e
    by false = none_anywhere begins_algorithm n (suc k) z e

-- ---- options for PlusCal

-- none begin in the blank behind it, nor in a text whose last byte is in none
pub adds_none : (s : Syntax) (rest w before : Text) (c : ℕ) → Apart c → w ≡ before ++ c ∷ [] → all_at is_options 0 w ≡ [] → AddsNoOptions (w ++ gap s rest)
adds_none s rest w before c apart is none z free =
    let behind : all_at is_options 1 (gap s rest ++ z) ≡ [] = over_gap s in
    let last : all_at is_options 0 (c ∷ (gap s rest ++ z)) ≡ [] = ap (λ (t : Bool). index_if t 0 (all_at is_options 1 (gap s rest ++ z))) (apart_none c apart (gap s rest ++ z)) ∙ behind in
    ap (all_at is_options 0) (append_assoc w (gap s rest) z ∙ ap (λ (u : Text). u ++ (gap s rest ++ z)) is ∙ append_assoc before (c ∷ []) (gap s rest ++ z))
    ∙ free_edge c apart 0 0 0 before [] (gap s rest ++ z) (ap (all_at is_options 0) (sym is) ∙ none) last
  where
    over_gap : (s : Syntax) → all_at is_options 1 (gap s rest ++ z) ≡ []
    over_gap c_syntax = none_elsewhere 0 1 z free
    over_gap p_syntax = by (ends_word rest)
      where
        by : (b : Bool) → all_at is_options 1 ((if b then [] else codes " ") ++ z) ≡ []
        by true = none_elsewhere 0 1 z free
        by false = none_elsewhere 0 2 z free
