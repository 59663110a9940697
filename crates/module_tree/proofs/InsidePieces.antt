-- Inside a comment a text that is cut into pieces is cut piece by piece, as an algorithm is.
use Rattle.std.proofs.Common.{◌≡◌, ℕ, zero, suc, ◌+◌, ◌-◌, Bool, true, false, nat_eq, List, [], ◌∷◌, ◌++◌, length, take, drop, Option, Some, None, refl, sym, ap, ◌∙◌, arith, append_assoc, length-append}
use Rattle.std.specs.Prelude.{if◌then◌else◌}
use Rattle.std.proofs.lemmas.Bool.{eqb-true}
use Rattle.std.proofs.lemmas.List.{take-append-drop}
use Rattle.std.proofs.Math.Seq.{take-append_seam}
use Rattle.tla_token.specs.Lexemes.{string, unquoted}
use Rattle.tla_token.specs.Tokens.{Piece, lexeme, bytes_of, text_of, Fits, AllFit}
use Rattle.tla_token.specs.Offences.{Part, sound, bad_string, open_string, part_bytes, string_len, begins_with}
use Rattle.tla_token.specs.Cut.{part_at, string_part}
use Rattle.tla_token.proofs.Spelled.{begins_is}
use Rattle.tla_token.proofs.Front.{quote_front}
use Rattle.tla_token.proofs.Parted.{first_part, fits_first, same_some, some_part}
use Rattle.module_tree.specs.TextFront.{Text}
use Rattle.module_tree.specs.ModuleParts.{kind_in}
use Rattle.module_tree.specs.AlgorithmText.{Stage, is_past, after_part, Inside, with_part, inner_part, inside}

-- what is found of an algorithm among these pieces, the first of which is at n
abbrev pub inside_pieces : Stage → ℕ → List Piece → Inside
inside_pieces st n [] = record { parts = []; stage = st; to = n }
inside_pieces st n (p ∷ ps) =
    if is_past st then record { parts = []; stage = st; to = n }
    else with_part (n, sound p) (inside_pieces (after_part st (kind_in (sound p))) (n + length (bytes_of p)) ps)

-- ---- strings

pub no_bad : (raw : Text) (p : Piece) → bad_string raw ≡ sound p → ⊥
no_bad raw p e = cc

pub no_open : (raw : Text) (p : Piece) → open_string raw ≡ sound p → ⊥
no_open raw p e = cc

-- what is found of a closed string doesn't rest on what is after it
pub quoted : (s r : Text) (p : Piece) → part_at 34 s ≡ sound p → part_at 34 (s ++ r) ≡ sound p
quoted s r p e = by (begins_with 34 rest) refl (unquoted raw) refl
  where
    raw : Text
    raw = take (string_len s) s

    rest : Text
    rest = drop (string_len s) s

    split : s ≡ raw ++ rest
    split = sym (take-append-drop (string_len s) s)

    is : string_part raw rest ≡ sound p
    is = e

    by : (k : Bool) → begins_with 34 rest ≡ k → (o : Option Text) → unquoted raw ≡ o → part_at 34 (s ++ r) ≡ sound p
    by true k None o = (let x : string_part raw rest ≡ bad_string raw = rw (k, o) refl in absurd (no_bad raw p (sym x ∙ is)))
    by true k (Some w) o =
        let x : string_part raw rest ≡ sound (lexeme (string w) (34 ∷ (raw ++ 34 ∷ []))) = rw (k, o) refl in
        let more : s ++ r ≡ raw ++ 34 ∷ (drop 1 rest ++ r) =
        ap (λ (u : Text). u ++ r) (split ∙ ap (λ (u : Text). raw ++ u) (begins_is rest (34 ∷ []) k)) ∙ append_assoc raw (34 ∷ drop 1 rest) r in
        ap (part_at 34) more ∙ quote_front raw (drop 1 rest ++ r) w o ∙ sym x ∙ is
    by false k o oo = (let x : string_part raw rest ≡ open_string raw = rw k refl in absurd (no_open raw p (sym x ∙ is)))

-- ---- a piece is found

pub piece_found : (p : Piece) (b : ℕ) (m rest r : Text) → bytes_of p ≡ b ∷ m → Fits p rest → inner_part (length (m ++ rest)) b ((m ++ rest) ++ r) ≡ sound p
piece_found p b m rest r e h = by (nat_eq b 34) refl
  where
    found : part_at b (m ++ rest) ≡ sound p
    found = same_some (part_at b (m ++ rest)) (sound p) (ap (λ (u : Text). first_part (u ++ rest)) (sym e) ∙ fits_first (sound p) rest h)

    choose : {k : Bool} → nat_eq b 34 ≡ k
        → inner_part (length (m ++ rest)) b ((m ++ rest) ++ r) ≡ part_at b (if k then (m ++ rest) ++ r else take (length (m ++ rest)) ((m ++ rest) ++ r))
    choose e = ap (λ (k : Bool). part_at b (if k then (m ++ rest) ++ r else take (length (m ++ rest)) ((m ++ rest) ++ r))) e

    by : (k : Bool) → nat_eq b 34 ≡ k → inner_part (length (m ++ rest)) b ((m ++ rest) ++ r) ≡ sound p
    by true k =
        let same : b ≡ 34 = eqb-true b 34 k in
        choose k ∙ (ap (λ (c : ℕ). part_at c ((m ++ rest) ++ r)) same ∙ quoted (m ++ rest) r p (ap (λ (c : ℕ). part_at c (m ++ rest)) (sym same) ∙ found))
    by false k = choose k ∙ ap (part_at b) (take-append_seam (m ++ rest) r) ∙ found

-- the bytes of a part are passed over
pub passed : (st : Stage) (m u : Text) (n k left : ℕ) → left ≡ length m + k → inside st n (length m) left (m ++ u) ≡ inside st (n + length m) 0 k u
passed st [] u n k left e = (let same : left ≡ k = omega arith in ap (λ (l : ℕ). inside st n 0 l u) same ∙ ap (λ (i : ℕ). inside st i 0 k u) (none n))
  where
    none : (n : ℕ) → n ≡ n + 0
    none n = omega arith
passed st (b ∷ m) u n k zero e = absurd (omega arith)
passed st (b ∷ m) u n k (suc left) e =
    (let same : left ≡ length m + k = omega arith in passed st m u (suc n) k left same) ∙ ap (λ (i : ℕ). inside st i 0 k u) (further n (length m))
  where
    further : (n l : ℕ) → suc n + l ≡ n + suc l
    further n l = omega arith

less : (n : ℕ) → suc n - 1 ≡ n
less n = omega arith

-- piece by piece
pub pieces_inside : (st : Stage) (n : ℕ) (ps : List Piece) (r : Text) → AllFit ps → inside st n 0 (length (text_of ps)) (text_of ps ++ r) ≡ inside_pieces st n ps
pieces_inside st n [] r h = refl
pieces_inside st n (p ∷ ps) r h = by (bytes_of p) refl (pieces_inside (after_part st (kind_in (sound p))) (n + length (bytes_of p)) ps r h.1)
  where
    rest : Text
    rest = text_of ps

    next : Stage
    next = after_part st (kind_in (sound p))

    Goal : Text → Type 0
    Goal u = inside st n 0 (length (u ++ rest)) ((u ++ rest) ++ r) ≡ inside_pieces st n (p ∷ ps)

    by : (u : Text) → bytes_of p ≡ u → inside next (n + length (bytes_of p)) 0 (length rest) (rest ++ r) ≡ inside_pieces next (n + length (bytes_of p)) ps → Goal u
    by [] e deeper = absurd (some_part (sound p) rest h.0 e)
    by (b ∷ m) e deeper = on (is_past st) refl
      where
        found : inner_part (length (m ++ rest)) b ((m ++ rest) ++ r) ≡ sound p
        found = piece_found p b m rest r e h.0

        sum : (n k l : ℕ) → l ≡ suc k → suc n + k ≡ n + l
        sum n k l e = omega arith

        after_it : inside next (suc n) (length (bytes_of p) - 1) (length (m ++ rest)) ((m ++ rest) ++ r) ≡ inside_pieces next (n + length (bytes_of p)) ps
        after_it =
            ap (λ (i : ℕ). inside next (suc n) i (length (m ++ rest)) ((m ++ rest) ++ r)) (ap (λ (u : Text). length u - 1) e ∙ less (length m))
            ∙ ap (λ (u : Text). inside next (suc n) (length m) (length (m ++ rest)) u) (append_assoc m rest r)
            ∙ passed next m (rest ++ r) (suc n) (length rest) (length (m ++ rest)) (length-append m rest)
            ∙ ap (λ (i : ℕ). inside next i 0 (length rest) (rest ++ r)) (sum n (length m) (length (bytes_of p)) (ap length e))
            ∙ deeper

        -- by what the first part is
        cut_by : Part → Inside
        cut_by q =
            with_part (n, q) (inside (after_part st (kind_in q)) (suc n) (length (part_bytes q) - 1) (length (m ++ rest)) ((m ++ rest) ++ r))

        open_here : (k : Bool) → is_past st ≡ k → inside st n 0 (suc (length (m ++ rest))) (b ∷ ((m ++ rest) ++ r))
            ≡ (if k then record { parts = []; stage = st; to = n } else cut_by (inner_part (length (m ++ rest)) b ((m ++ rest) ++ r)))
        open_here k e = ap (λ (k : Bool). if k then record { parts = []; stage = st; to = n } else cut_by (inner_part (length (m ++ rest)) b ((m ++ rest) ++ r))) e

        shut : (k : Bool) → is_past st ≡ k → inside_pieces st n (p ∷ ps)
            ≡ (if k then record { parts = []; stage = st; to = n } else with_part (n, sound p) (inside_pieces next (n + length (bytes_of p)) ps))
        shut k e = ap (λ (k : Bool). if k then record { parts = []; stage = st; to = n } else with_part (n, sound p) (inside_pieces next (n + length (bytes_of p)) ps)) e

        on : (k : Bool) → is_past st ≡ k → Goal (b ∷ m)
        on true k = open_here true k ∙ sym (shut true k)
        on false k = open_here false k ∙ ap cut_by found ∙ ap (with_part (n, sound p)) after_it ∙ sym (shut false k)
