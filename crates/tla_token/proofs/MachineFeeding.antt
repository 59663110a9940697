-- A text that is fed in pieces has the parts of the whole text.
use Rattle.std.proofs.Common.{◌≡◌, ℕ, Bool, true, false, not, ◌||◌, nat_eq, nat_le, nat_lt, inl, inr, List, [], ◌∷◌, ◌++◌, length, fold, refl, sym, ap, ◌∙◌, arith, append_assoc, append-nil}
use Rattle.std.specs.List.{concat, list_all, list_any}
use Rattle.std.proofs.lemmas.Bool.{and_from, or_parts, true_from_ne_false, both_ways, leb-false, ltb-false}
use Rattle.tla_token.specs.Lexemes.{name, number, string, one, other, is_word}
use Rattle.tla_token.specs.Tokens.{blank, block, line, lexeme}
use Rattle.tla_token.specs.Offences.{Part, sound, stray, bad_string, open_string, open_block, part_bytes, parts_text, PartFits, PartsFit}
use Rattle.tla_token.specs.Cut.{parts}
use Rattle.tla_token.specs.Feeding.{is_settled, stays, decided, undecided, Fed, nothing_fed, feed, finish, fed, is_open, IsKept}
use Rattle.tla_token.proofs.Parted.{some_part, fits_first, parts_step, cut_back}
use Rattle.tla_token.proofs.Cutting.{cut_fits}
use Rattle.tla_token.proofs.MachineStays.{stays_fits}

-- ---- one piece

-- a part that fits before more is in front of it
pub goes_before : (x : Part) (rest more : List ℕ) → PartFits x (rest ++ more) → parts ((part_bytes x ++ rest) ++ more) ≡ x ∷ parts (rest ++ more)
goes_before x rest more f =
    ap parts (append_assoc (part_bytes x) rest more) ∙ parts_step x (part_bytes x) (rest ++ more) refl (fits_first x (rest ++ more) f) (some_part x (rest ++ more) f)

parts_more : (ps : List Part) (more : List ℕ) → PartsFit ps → parts (parts_text ps ++ more) ≡ decided ps ++ parts (undecided ps ++ more)
parts_more [] more h = refl
parts_more (x ∷ ps) more (f, h) = by (stays x (parts_text ps)) refl (parts_more ps more h)
  where
    by : (k : Bool) → stays x (parts_text ps) ≡ k → parts (parts_text ps ++ more) ≡ decided ps ++ parts (undecided ps ++ more)
        → parts (parts_text (x ∷ ps) ++ more) ≡ decided (x ∷ ps) ++ parts (undecided (x ∷ ps) ++ more)
    by true k e = rw k (goes_before x (parts_text ps) more (stays_fits x (parts_text ps) more f k) ∙ ap (λ (qs : List Part). x ∷ qs) e)
    by false k e = rw k refl

-- what is decided of a text is so in each longer text, and what is kept gives the others
pub decided_so : (text more : List ℕ) → parts (text ++ more) ≡ decided (parts text) ++ parts (undecided (parts text) ++ more)
decided_so text more =
    let c = cut_fits text in
    ap (λ (u : List ℕ). parts (u ++ more)) (sym c.0) ∙ parts_more (parts text) more c.1

-- ---- all pieces

fed_from : (f : Fed) (pieces : List (List ℕ)) → finish (fold feed f pieces) ≡ f.parts ++ parts (f.rest ++ concat pieces)
fed_from f [] = ap (λ (u : List ℕ). f.parts ++ parts u) (sym (append-nil f.rest))
fed_from f (piece ∷ pieces) =
    let text = f.rest ++ piece in
    fed_from (feed f piece) pieces
    ∙ append_assoc f.parts (decided (parts text)) (parts (undecided (parts text) ++ concat pieces))
    ∙ ap (λ (ps : List Part). f.parts ++ ps) (sym (decided_so text (concat pieces)))
    ∙ ap (λ (u : List ℕ). f.parts ++ parts u) (append_assoc f.rest piece (concat pieces))

pub fed_so : (pieces : List (List ℕ)) → finish (fed pieces) ≡ parts (concat pieces)
fed_so pieces = fed_from nothing_fed pieces

-- ---- what is kept

no_others : (w : List ℕ) → list_any (λ c. not (is_word c)) w ≡ false → list_all is_word w ≡ true
no_others [] h = refl
no_others (b ∷ w) h =
    let p = or_parts (not (is_word b)) (list_any (λ c. not (is_word c)) w) h in
    and_from (is_word b) (list_all is_word w) (true_from_ne_false (is_word b) (λ e. both_ways (not (is_word b)) p.0 (ap not e))) (no_others w p.1)

unsettled : (u : List ℕ) → is_settled u ≡ false → IsKept u
unsettled [] h = inl (omega arith)
unsettled (b ∷ bs) h = by (is_word b || nat_eq b 92) refl
  where
    by : (k : Bool) → (is_word b || nat_eq b 92) ≡ k → IsKept (b ∷ bs)
    by true k = (let g : list_any (λ c. not (is_word c)) bs ≡ false = rw k at h in inr (inl (and_from (is_word b || nat_eq b 92) (list_all is_word bs) k (no_others bs g))))
    by false k = (let g : nat_le 2 (length bs) ≡ false = rw k at h in let l = leb-false 2 (length bs) g in inl (omega arith))

none_behind : (ps : List Part) → PartsFit ps → nat_lt 0 (length (parts_text ps)) ≡ false → ps ≡ []
none_behind [] h e = refl
none_behind (x ∷ ps) (f, h) e = by (part_bytes x) (some_part x (parts_text ps) f) e
  where
    by : (w : List ℕ) → (w ≡ [] → ⊥) → nat_lt 0 (length (w ++ parts_text ps)) ≡ false → x ∷ ps ≡ []
    by [] some e = absurd (some refl)
    by (b ∷ w) some e = (let l = ltb-false 0 (length ((b ∷ w) ++ parts_text ps)) e in absurd (omega arith))

alone : (x : Part) (ps : List Part) → PartsFit (x ∷ ps) → ps ≡ [] → is_open x ≡ true → IsKept (parts_text (x ∷ ps))
alone x ps h e o = inr (inr (x, cut_back (x ∷ ps) h ∙ ap (λ (qs : List Part). x ∷ qs) e, o))

open_end : (body : List ℕ) (ps : List Part) → PartsFit (open_block body ∷ ps) → ps ≡ []
open_end body ps ((e, never), h) = none_behind ps h (ap (λ (u : List ℕ). nat_lt 0 (length u)) e)

pub changing : (x : Part) (ps : List Part) → PartsFit (x ∷ ps) → stays x (parts_text ps) ≡ false → IsKept (parts_text (x ∷ ps))
changing (sound (blank b)) ps h s = absurd cc
changing (sound (block body)) ps h s = absurd cc
changing (sound (line body)) ps (f, h) s = alone (sound (line body)) ps (f, h) (none_behind ps h s) refl
changing (sound (lexeme (name w) bytes)) ps h s = unsettled (bytes ++ parts_text ps) s
changing (sound (lexeme (number n) bytes)) ps h s = unsettled (bytes ++ parts_text ps) s
changing (sound (lexeme (string w) bytes)) ps h s = absurd cc
changing (sound (lexeme (one t) bytes)) ps h s = unsettled (bytes ++ parts_text ps) s
changing (sound (lexeme (other w) bytes)) ps h s = unsettled (bytes ++ parts_text ps) s
changing (stray b) ps h s = absurd cc
changing (bad_string raw) ps h s = absurd cc
changing (open_string raw) ps (f, h) s = alone (open_string raw) ps (f, h) (none_behind ps h s) refl
changing (open_block body) ps h s = alone (open_block body) ps h (open_end body ps h) refl

kept_of : (ps : List Part) → PartsFit ps → IsKept (undecided ps)
kept_of [] h = inl (omega arith)
kept_of (x ∷ ps) (f, h) = by (stays x (parts_text ps)) refl (kept_of ps h)
  where
    by : (k : Bool) → stays x (parts_text ps) ≡ k → IsKept (undecided ps) → IsKept (undecided (x ∷ ps))
    by true k e = rw k e
    by false k e = rw k (changing x ps (f, h) k)

fed_kept : (f : Fed) (pieces : List (List ℕ)) → IsKept f.rest → IsKept (fold feed f pieces).rest
fed_kept f [] h = h
fed_kept f (piece ∷ pieces) h = fed_kept (feed f piece) pieces (kept_of (parts (f.rest ++ piece)) (cut_fits (f.rest ++ piece)).1)

pub kept_so : (pieces : List (List ℕ)) → IsKept (fed pieces).rest
kept_so pieces = fed_kept nothing_fed pieces (inl (omega arith))
