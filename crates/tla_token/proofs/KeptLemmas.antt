-- What is known of a token's word by what it keeps.
use Rattle.std.proofs.Common.{◌≡◌, ℕ, zero, suc, ◌<◌, ◌≤◌, Bool, true, false, not, ◌&&◌, ◌||◌, get_or, List, [], ◌∷◌, ◌++◌, length, All, Option, Some, None, is_some, refl, sym, ap, ◌∙◌, arith}
use Rattle.std.specs.List.{list_all}
use Rattle.std.specs.Str.{bytes_eq}
use Rattle.std.proofs.lemmas.List.Elements.{All-get_or, All-drop}
use Rattle.std.proofs.lemmas.Bool.{and_parts, or_parts, not-true, both_ways}
use Rattle.tla_token.specs.declared.word.PluscalWord.{PluscalWord}
use Rattle.tla_token.specs.declared.word.TlaWord.{TlaWord}
use Rattle.tla_token.specs.declared.token.Kind.{Kind}
use Rattle.tla_token.specs.declared.token.Kind.TheVariants as code
use Rattle.tla_token.specs.declared.token.Span.{Span}
use Rattle.tla_token.specs.declared.token.Token.{Token}
use Rattle.tla_token.specs.declared.sign.Sign.{Sign}
use Rattle.tla_token.specs.Signs.{is_among}
use Rattle.tla_token.specs.Words.{is_pluscal_word, is_tla_word, is_reserved, tla_words, begins_fairness}
use Rattle.tla_token.specs.ReservedWords.{pluscal_spelling, tla_spelling, pluscal_word_of, tla_word_of}
use Rattle.tla_token.specs.KeptWords.{is_kept, are_kept, is_fairness}
use Rattle.tla_token.specs.TokensSeen.{span_bytes, IsCanonical, AllCanonical}
use Rattle.tla_token.proofs.Spelled.{same_bytes}
use Rattle.tla_token.proofs.ReservedFound.{pluscal_found, tla_among, pluscal_is, tla_is}

-- ---- what was found is kept

pub keeps_pluscal : (bytes : List ℕ) (s : Span) (w : List ℕ) (r : PluscalWord) → pluscal_word_of w ≡ Some r → span_bytes bytes s ≡ w → is_kept bytes (code.PluscalWord s r) ≡ true
unfolding is_kept
keeps_pluscal bytes s w r found e = ap (bytes_eq (pluscal_spelling r)) e ∙ pluscal_is w r found

pub keeps_tla : (bytes : List ℕ) (s : Span) (w : List ℕ) (r : TlaWord) → tla_word_of w ≡ Some r → span_bytes bytes s ≡ w → is_kept bytes (code.TlaWord s r) ≡ true
unfolding is_kept
keeps_tla bytes s w r found e = ap (bytes_eq (tla_spelling r)) e ∙ tla_is w r found

not_pluscal : (w : List ℕ) → pluscal_word_of w ≡ None → is_pluscal_word w ≡ false
not_pluscal w h = sym (pluscal_found w) ∙ ap is_some h

not_tla : (w : List ℕ) → tla_word_of w ≡ None → is_among tla_words w ≡ false
not_tla w h = sym (tla_among w) ∙ ap is_some h

pub keeps_fairness : (bytes : List ℕ) (s : Span) (w : List ℕ) → pluscal_word_of w ≡ None → tla_word_of w ≡ None → begins_fairness w ≡ true → span_bytes bytes s ≡ w → is_kept bytes (code.Fairness s) ≡ true
unfolding is_kept
keeps_fairness bytes s w p t f e = ap is_fairness e ∙ (λ i. f i && not (not_pluscal w p i || not_tla w t i))

pub keeps_name : (bytes : List ℕ) (s : Span) (w : List ℕ) → pluscal_word_of w ≡ None → tla_word_of w ≡ None → begins_fairness w ≡ false → span_bytes bytes s ≡ w → is_kept bytes (code.Name s) ≡ true
unfolding is_kept
keeps_name bytes s w p t f e = ap (λ (u : List ℕ). not (is_reserved u)) e ∙ (λ i. not (not_pluscal w p i || (not_tla w t i || f i)))

pub keeps_number : (bytes : List ℕ) (n : ℕ) → is_kept bytes (code.Number n) ≡ true
unfolding is_kept
keeps_number bytes n = refl

pub keeps_digits : (bytes : List ℕ) (s : Span) → is_kept bytes (code.BigNumber s) ≡ true
unfolding is_kept
keeps_digits bytes s = refl

pub keeps_text : (bytes : List ℕ) (s : Span) → is_kept bytes (code.Text s) ≡ true
unfolding is_kept
keeps_text bytes s = refl

pub keeps_sign : (bytes : List ℕ) (s : Sign) → is_kept bytes (code.Sign s) ≡ true
unfolding is_kept
keeps_sign bytes s = refl

pub keeps_other : (bytes : List ℕ) (s : Span) → is_kept bytes (code.Other s) ≡ true
unfolding is_kept
keeps_other bytes s = refl

-- ---- what is kept

pub kept_name : (bytes : List ℕ) (s : Span) → is_kept bytes (code.Name s) ≡ true → is_reserved (span_bytes bytes s) ≡ false
unfolding is_kept
kept_name bytes s h = not-true (is_reserved (span_bytes bytes s)) h

pub kept_pluscal : (bytes : List ℕ) (s : Span) (r : PluscalWord) → is_kept bytes (code.PluscalWord s r) ≡ true → span_bytes bytes s ≡ pluscal_spelling r
unfolding is_kept
kept_pluscal bytes s r h = sym (same_bytes (pluscal_spelling r) (span_bytes bytes s) h)

pub kept_tla : (bytes : List ℕ) (s : Span) (r : TlaWord) → is_kept bytes (code.TlaWord s r) ≡ true → span_bytes bytes s ≡ tla_spelling r
unfolding is_kept
kept_tla bytes s r h = sym (same_bytes (tla_spelling r) (span_bytes bytes s) h)

pub kept_fairness : (bytes : List ℕ) (s : Span) → is_kept bytes (code.Fairness s) ≡ true
    → (begins_fairness (span_bytes bytes s) ≡ true) × (is_pluscal_word (span_bytes bytes s) ≡ false) × (is_among tla_words (span_bytes bytes s) ≡ false)
unfolding is_kept
kept_fairness bytes s h =
    let w = span_bytes bytes s in
    let p = and_parts (begins_fairness w) (not (is_pluscal_word w || is_among tla_words w)) h in
    let q = or_parts (is_pluscal_word w) (is_among tla_words w) (not-true (is_pluscal_word w || is_among tla_words w) p.1) in
    (p.0, q.0, q.1)

-- what is among none of some words is among none of fewer
pub among_fewer : (vs ws : List (List ℕ)) (w : List ℕ) → list_all (λ v. is_among ws v) vs ≡ true → is_among ws w ≡ false → is_among vs w ≡ false
among_fewer [] ws w h n = refl
among_fewer (v ∷ vs) ws w h n = (let p = and_parts (is_among ws v) (list_all (λ v. is_among ws v) vs) h in by (bytes_eq v w) refl p.0 (among_fewer vs ws w p.1 n))
  where
    by : (k : Bool) → bytes_eq v w ≡ k → is_among ws v ≡ true → is_among vs w ≡ false → is_among (v ∷ vs) w ≡ false
    by true e m d = absurd (both_ways (is_among ws w) n (ap (is_among ws) (sym (same_bytes v w e)) ∙ m))
    by false e m d = (λ i. e i || d i)

-- ---- lists of tokens

pub kept_at : (bytes : List ℕ) (items : List Token) (i : ℕ) (d : Token) → are_kept bytes items ≡ true → i < length items → is_kept bytes (get_or items i d).kind ≡ true
kept_at bytes [] i d h l = absurd (omega arith)
kept_at bytes (t ∷ items) zero d h l = (and_parts (is_kept bytes t.kind) (are_kept bytes items) h).0
kept_at bytes (t ∷ items) (suc i) d h l = kept_at bytes items i d (and_parts (is_kept bytes t.kind) (are_kept bytes items) h).1 (omega arith)

pub kept_there : (bytes : List ℕ) (items : List Token) (i : ℕ) (t : Token) → are_kept bytes items ≡ true → i < length items → t ≡ get_or items i t → is_kept bytes t.kind ≡ true
kept_there bytes items i t h l e = ap (λ (u : Token). is_kept bytes u.kind) e ∙ kept_at bytes items i t h l

canonical_kept : (bytes : List ℕ) (k : Kind) → IsCanonical bytes k → is_kept bytes k ≡ true
unfolding is_kept
canonical_kept bytes (code.Name s) h = h
canonical_kept bytes (code.PluscalWord s w) h = h
canonical_kept bytes (code.TlaWord s w) h = h
canonical_kept bytes (code.Fairness s) h = h
canonical_kept bytes (code.Number n) h = refl
canonical_kept bytes (code.BigNumber s) h = refl
canonical_kept bytes (code.Text s) h = refl
canonical_kept bytes (code.Sign s) h = refl
canonical_kept bytes (code.Other s) h = refl

pub all_kept : (bytes : List ℕ) (items : List Token) → AllCanonical bytes items → are_kept bytes items ≡ true
all_kept bytes [] h = refl
all_kept bytes (t ∷ items) h =
    let P : Token → Type 0 = λ t. IsCanonical bytes t.kind in
    let here : is_kept bytes t.kind ≡ true = canonical_kept bytes t.kind (All-get_or P (t ∷ items) 0 t (omega arith) h) in
    (λ i. here i && all_kept bytes items (All-drop P 1 (t ∷ items) h) i)
