-- Pieces that fit before a text fit before less of it.
use Rattle.std.proofs.Common.{◌≡◌, ℕ, Bool, false, ◌||◌, List, [], ◌∷◌, ◌++◌, length, drop, refl, sym, ap, subst, ◌∙◌, codes, append_assoc}
use Rattle.std.proofs.lemmas.Bool.{or_parts, both_ways, false_from_ne_true}
use Rattle.tla_token.specs.Lexemes.{IsLongest}
use Rattle.tla_token.specs.Tokens.{Piece, blank, block, line, lexeme, text_of, bytes_of, Fits, EndsLine, AllFit, opens_comment}
use Rattle.tla_token.proofs.Spelled.{begins, begins_from, begins_is}

pub text_append : (ps qs : List Piece) → text_of (ps ++ qs) ≡ text_of ps ++ text_of qs
text_append [] qs = refl
text_append (p ∷ ps) qs = ap (λ (u : List ℕ). bytes_of p ++ u) (text_append ps qs) ∙ sym (append_assoc (bytes_of p) (text_of ps) (text_of qs))

starts_less : (w a t : List ℕ) → begins (a ++ t) w ≡ false → begins a w ≡ false
starts_less w a t h =
    false_from_ne_true (begins a w) (λ e.
    let whole = ap (λ (u : List ℕ). u ++ t) (begins_is a w e) ∙ append_assoc w (drop (length w) a) t in
    both_ways (begins (a ++ t) w) h (begins_from (a ++ t) w (drop (length w) a ++ t) whole))

comment_less : (a t : List ℕ) → opens_comment (a ++ t) ≡ false → opens_comment a ≡ false
comment_less a t h =
    let both = or_parts (begins (a ++ t) (codes "(*")) (begins (a ++ t) (codes "\\*")) h in
    by (begins a (codes "(*")) (begins a (codes "\\*")) (starts_less (codes "(*") a t both.0) (starts_less (codes "\\*") a t both.1)
  where
    by : (x y : Bool) → x ≡ false → y ≡ false → (x || y) ≡ false
    by x y e f = rw (e, f) refl

longest_less : (bytes s t : List ℕ) → IsLongest bytes (s ++ t) → IsLongest bytes s
longest_less bytes s t h k m more is e =
    h k m (more ++ t) is (sym (append_assoc bytes s t) ∙ ap (λ (u : List ℕ). u ++ t) e ∙ append_assoc m more t)

ends_less : (s t : List ℕ) → EndsLine (s ++ t) → EndsLine s
ends_less [] t h = tt
ends_less (b ∷ s) t h = h

pub fits_less : (p : Piece) (s t : List ℕ) → Fits p (s ++ t) → Fits p s
fits_less (blank b) s t h = h
fits_less (block body) s t h = h
fits_less (line body) s t h = (h.0, ends_less s t h.1)
fits_less (lexeme k bytes) s t h =
    (comment_less (bytes ++ s) t (ap opens_comment (append_assoc bytes s t) ∙ h.0), h.1, longest_less bytes s t h.2)

-- the first of pieces that fit fit without the others
pub all_fit_less : (ps qs : List Piece) → AllFit (ps ++ qs) → AllFit ps
all_fit_less [] qs h = tt
all_fit_less (p ∷ ps) qs h = (fits_less p (text_of ps) (text_of qs) (subst (Fits p) (text_append ps qs) h.0), all_fit_less ps qs h.1)
