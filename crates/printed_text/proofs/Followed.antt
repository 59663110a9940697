-- A text of whole lines and a last one, in pieces, is found piece by piece in the comment of a file, whatever is after it there.
use Rattle.std.proofs.Common.{◌≡◌, ℕ, suc, ◌+◌, ◌-◌, Bool, true, false, ◌||◌, nat_eq, List, [], ◌∷◌, ◌++◌, length, take, refl, sym, ap, subst, ◌∙◌, arith, append_assoc, append-nil, length-append, codes}
use Rattle.std.specs.Prelude.{if◌then◌else◌}
use Rattle.std.specs.List.{list_all}
use Rattle.std.proofs.lemmas.Bool.{and_parts, eqb-true}
use Rattle.std.proofs.Math.Seq.{take-append_seam}
use Rattle.tla_token.specs.Lexemes.{IsLongest}
use Rattle.tla_token.specs.Tokens.{Piece, blank, block, line, lexeme, bytes_of, text_of, opens_comment, EndsLine, Fits, AllFit}
use Rattle.tla_token.specs.Offences.{Part, sound, part_bytes}
use Rattle.tla_token.specs.Cut.{part_at}
use Rattle.tla_token.proofs.Longest.{same_first}
use Rattle.tla_token.proofs.Less.{text_append, fits_less}
use Rattle.tla_token.proofs.OneLine.{stays, lexeme_stays}
use Rattle.tla_token.proofs.Parted.{first_part, fits_first, same_some, some_part}
use Rattle.module_tree.specs.TextFront.{Text}
use Rattle.module_tree.specs.ModuleParts.{kind_in}
use Rattle.module_tree.specs.AlgorithmText.{Stage, is_past, after_part, Inside, with_part, inner_part, inside}
use Rattle.module_tree.proofs.InsidePieces.{piece_found}
use Rattle.module_tree.proofs.WalkLines.{begins_alike}
use Rattle.module_tree.proofs.InsidePieces.{inside_pieces, quoted, passed}

-- ---- what fits before a line's end fits there whatever is in the next lines

cut : (m l t more : Text) → list_all stays m ≡ true → l ++ 10 ∷ t ≡ m ++ more → (z : Text) × (l ≡ m ++ z)
cut [] l t more h e = (l, refl)
cut (b ∷ m) [] t more h e =
    let same = (same_first 10 b t (m ++ more) e).0 in
    let no : stays 10 ≡ true = ap stays same ∙ (and_parts (stays b) (list_all stays m) h).0 in
    absurd cc
cut (b ∷ m) (c ∷ l) t more h e =
    let both = same_first c b (l ++ 10 ∷ t) (m ++ more) e in
    let deeper = cut m l t more (and_parts (stays b) (list_all stays m) h).1 both.1 in
    (deeper.0, (λ i. both.0 i ∷ deeper.1 i))

longest_line : (bytes s t : Text) → IsLongest bytes (s ++ 10 ∷ []) → IsLongest bytes (s ++ 10 ∷ t)
longest_line bytes s t h k m more is e =
    let x = cut m (bytes ++ s) t more (lexeme_stays k m is) (append_assoc bytes s (10 ∷ t) ∙ e) in
    h k m (x.0 ++ 10 ∷ []) is (sym (append_assoc bytes s (10 ∷ [])) ∙ ap (λ (u : Text). u ++ 10 ∷ []) x.1 ∙ append_assoc m x.0 (10 ∷ []))

comment_line : (bytes s t : Text) → opens_comment (bytes ++ (s ++ 10 ∷ [])) ≡ opens_comment (bytes ++ (s ++ 10 ∷ t))
comment_line bytes s t =
    ap opens_comment (sym (append_assoc bytes s (10 ∷ [])))
    ∙ (λ i. begins_alike [] t (bytes ++ s) (codes "(*") refl i || begins_alike [] t (bytes ++ s) (codes "\\*") refl i)
    ∙ ap opens_comment (append_assoc bytes s (10 ∷ t))

ends_line : (s t : Text) → EndsLine (s ++ 10 ∷ []) → EndsLine (s ++ 10 ∷ t)
ends_line [] t h = refl
ends_line (b ∷ s) t h = h

fits_line : (p : Piece) (s t : Text) → Fits p (s ++ 10 ∷ []) → Fits p (s ++ 10 ∷ t)
fits_line (blank b) s t h = h
fits_line (block body) s t h = h
fits_line (line body) s t h = (h.0, ends_line s t h.1)
fits_line (lexeme k bytes) s t h = (sym (comment_line bytes s t) ∙ h.0, h.1, longest_line bytes s t h.2)

no_line : (v : Text) → list_all stays (v ++ 10 ∷ []) ≡ true → ⊥
no_line [] h = cc
no_line (b ∷ v) h = no_line v (and_parts (stays b) (list_all stays (v ++ 10 ∷ [])) h).1

-- a piece that ends a line fits before anything
last_fits : (p : Piece) (v q : Text) → bytes_of p ≡ v ++ 10 ∷ [] → Fits p [] → Fits p q
last_fits (blank b) v q e h = h
last_fits (block body) v q e h = h
last_fits (line body) v q e h = absurd (no_line v (ap (list_all stays) (sym e) ∙ h.0))
last_fits (lexeme k bytes) v q e h = absurd (no_line v (ap (list_all stays) (sym e) ∙ lexeme_stays k bytes h.1))

-- ---- all pieces, before a text

abbrev pub AllFitBefore : Text → List Piece → Type 0
AllFitBefore q [] = Unit {0}
AllFitBefore q (p ∷ ps) = Fits p (text_of ps ++ q) × AllFitBefore q ps

ended : (a b v : Text) → a ++ b ≡ v ++ 10 ∷ [] → (b ≡ [] → ⊥) → (w : Text) × (b ≡ w ++ 10 ∷ [])
ended [] b v e n = (v, e)
ended (c ∷ a) b [] e n = absurd (n (empty a b (same_first c 10 (a ++ b) [] e).1))
  where
    empty : (a b : Text) → a ++ b ≡ [] → b ≡ []
    empty [] b e = e
    empty (c ∷ a) b e = absurd cc
ended (c ∷ a) b (d ∷ v) e n = ended a b v (same_first c d (a ++ b) (v ++ 10 ∷ []) e).1 n

some_text : (p : Piece) (ps : List Piece) → Fits p (text_of ps) → text_of (p ∷ ps) ≡ [] → ⊥
some_text p ps h e = some_part (sound p) (text_of ps) h (front (bytes_of p) (text_of ps) e)
  where
    front : (a b : Text) → a ++ b ≡ [] → a ≡ []
    front [] b e = refl
    front (c ∷ a) b e = absurd cc

pub lines_fit : (ps : List Piece) (v q : Text) → text_of ps ≡ v ++ 10 ∷ [] → AllFit ps → AllFitBefore q ps
lines_fit [] v q e h = tt
lines_fit (p ∷ []) v q e h = (last_fits p v q (sym (append-nil (bytes_of p)) ∙ e) h.0, tt)
lines_fit (p ∷ r ∷ ps) v q e h =
    let x = ended (bytes_of p) (text_of (r ∷ ps)) v e (some_text r ps h.1.0) in
    let there : Fits p (x.0 ++ 10 ∷ q) = fits_line p x.0 q (subst (Fits p) x.1 h.0) in
    let text : x.0 ++ 10 ∷ q ≡ text_of (r ∷ ps) ++ q = sym (append_assoc x.0 (10 ∷ []) q) ∙ ap (λ (u : Text). u ++ q) (sym x.1) in
    (subst (Fits p) text there, lines_fit (r ∷ ps) x.0 q x.1 h.1)

pub both_fit : (ps qs : List Piece) (q : Text) → AllFitBefore (text_of qs ++ q) ps → AllFitBefore q qs → AllFitBefore q (ps ++ qs)
both_fit [] qs q h k = k
both_fit (p ∷ ps) qs q h k =
    (subst (Fits p) (sym (append_assoc (text_of ps) (text_of qs) q) ∙ ap (λ (u : Text). u ++ q) (sym (text_append ps qs))) h.0, both_fit ps qs q h.1 k)

pub fit_alone : (ps : List Piece) (q : Text) → AllFitBefore q ps → AllFit ps
fit_alone [] q h = tt
fit_alone (p ∷ ps) q h = (fits_less p (text_of ps) q h.0, fit_alone ps q h.1)

-- ---- found in a comment

less : (n : ℕ) → suc n - 1 ≡ n
less n = omega arith

-- nothing more is looked at after the end
stopped : (st : Stage) (n : ℕ) (q r : Text) → is_past st ≡ true → inside st n 0 (length q) (q ++ r) ≡ record { parts = []; stage = st; to = n }
stopped st n [] r h = refl
stopped st n (b ∷ q) r h = rw h refl

-- piece by piece, where they end the algorithm
pub pieces_found : (st : Stage) (n : ℕ) (ps : List Piece) (q r : Text) → AllFitBefore q ps → is_past (inside_pieces st n ps).stage ≡ true
    → inside st n 0 (length (text_of ps ++ q)) ((text_of ps ++ q) ++ r) ≡ inside_pieces st n ps
pieces_found st n [] q r h e = stopped st n q r e
pieces_found st n (p ∷ ps) q r h e =
    ap (λ (u : Text). inside st n 0 (length u) (u ++ r)) (append_assoc (bytes_of p) (text_of ps) q)
    ∙ by (bytes_of p) refl (pieces_found (after_part st (kind_in (sound p))) (n + length (bytes_of p)) ps q r h.1)
  where
    rest : Text
    rest = text_of ps ++ q

    next : Stage
    next = after_part st (kind_in (sound p))

    Goal : Text → Type 0
    Goal u = inside st n 0 (length (u ++ rest)) ((u ++ rest) ++ r) ≡ inside_pieces st n (p ∷ ps)

    Deeper : Type 0
    Deeper =
        is_past (inside_pieces next (n + length (bytes_of p)) ps).stage ≡ true
        → inside next (n + length (bytes_of p)) 0 (length rest) (rest ++ r) ≡ inside_pieces next (n + length (bytes_of p)) ps

    shut : (k : Bool) → is_past st ≡ k → inside_pieces st n (p ∷ ps)
        ≡ (if k then record { parts = []; stage = st; to = n } else with_part (n, sound p) (inside_pieces next (n + length (bytes_of p)) ps))
    shut k f = ap (λ (k : Bool). if k then record { parts = []; stage = st; to = n } else with_part (n, sound p) (inside_pieces next (n + length (bytes_of p)) ps)) f

    by : (u : Text) → bytes_of p ≡ u → Deeper → Goal u
    by [] f deeper = absurd (some_part (sound p) rest h.0 f)
    by (b ∷ m) f deeper = on (is_past st) refl
      where
        found : inner_part (length (m ++ rest)) b ((m ++ rest) ++ r) ≡ sound p
        found = piece_found p b m rest r f h.0

        sum : (n k l : ℕ) → l ≡ suc k → suc n + k ≡ n + l
        sum n k l e = omega arith

        after_it : is_past st ≡ false → inside next (suc n) (length (bytes_of p) - 1) (length (m ++ rest)) ((m ++ rest) ++ r) ≡ inside_pieces next (n + length (bytes_of p)) ps
        after_it k =
            ap (λ (i : ℕ). inside next (suc n) i (length (m ++ rest)) ((m ++ rest) ++ r)) (ap (λ (u : Text). length u - 1) f ∙ less (length m))
            ∙ ap (λ (u : Text). inside next (suc n) (length m) (length (m ++ rest)) u) (append_assoc m rest r)
            ∙ passed next m (rest ++ r) (suc n) (length rest) (length (m ++ rest)) (length-append m rest)
            ∙ ap (λ (i : ℕ). inside next i 0 (length rest) (rest ++ r)) (sum n (length m) (length (bytes_of p)) (ap length f))
            ∙ deeper (ap (λ (i : Inside). is_past i.stage) (sym (shut false k)) ∙ e)

        -- by what the first part is
        cut_by : Part → Inside
        cut_by q =
            with_part (n, q) (inside (after_part st (kind_in q)) (suc n) (length (part_bytes q) - 1) (length (m ++ rest)) ((m ++ rest) ++ r))

        open_here : (k : Bool) → is_past st ≡ k → inside st n 0 (suc (length (m ++ rest))) (b ∷ ((m ++ rest) ++ r))
            ≡ (if k then record { parts = []; stage = st; to = n } else cut_by (inner_part (length (m ++ rest)) b ((m ++ rest) ++ r)))
        open_here k f = ap (λ (k : Bool). if k then record { parts = []; stage = st; to = n } else cut_by (inner_part (length (m ++ rest)) b ((m ++ rest) ++ r))) f

        on : (k : Bool) → is_past st ≡ k → Goal (b ∷ m)
        on true k = open_here true k ∙ sym (shut true k)
        on false k = open_here false k ∙ ap cut_by found ∙ ap (with_part (n, sound p)) (after_it k) ∙ sym (shut false k)
