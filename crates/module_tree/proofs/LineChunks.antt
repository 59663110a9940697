-- Lines as chunks of a text, and the signs and words of translations.
use Rattle.std.proofs.Common.{◌≡◌, ℕ, zero, suc, ◌+◌, Bool, true, List, [], ◌∷◌, ◌++◌, refl, ap, ◌∙◌, arith, codes}
use Rattle.std.proofs.lemmas.Bool.{lt-ltb}
use Rattle.tla_token.specs.declared.place.Place.{Place}
use Rattle.tla_token.specs.Places.{after}
use Rattle.tla_token.specs.Lexemes.{name}
use Rattle.tla_token.specs.Tokens.{Piece, blank, text_of}
use Rattle.tla_token.proofs.Before.{marks_before}
use Rattle.tla_tree.specs.declared.op.Op.{Op}
use Rattle.tla_tree.specs.declared.op.Op.TheVariants as op
use Rattle.tla_tree.specs.Lexical.{Mark, Key, Token}
use Rattle.tla_tree.specs.Lexical as tk
use Rattle.tla_tree.specs.Spelling.{Right}
use Rattle.tla_tree.specs.laws.Writable.{IsSpelled}
use Rattle.tla_tree.specs.laws.InText.{ends_word}
use Rattle.tla_tree.proofs.SpelledTokens.{sign_spelled, mark_spelled, key_spelled}
use Rattle.tla_tree.proofs.FitTokens.{Before, starts, word_fits, sign_fits, key_fits, defines_fits, colon_fits, open_bracket_fits, close_bracket_fits, prime_fits, open_tuple_fits, close_tuple_fits}
use Rattle.module_tree.specs.Grammar.{Tokens, see}
use Rattle.module_tree.specs.Layout.{blanks, line}
use Rattle.module_tree.proofs.Chunks.{put, Fine, space_fine, seen, passes_sign, Chunk, any, at_byte, before_byte, join, one, space, newline}

-- ---- blanks at the front of a line

abbrev spaces : ℕ → List Piece → List Piece
spaces zero r = r
spaces (suc k) r = blank 32 ∷ spaces k r

spaces_bytes : (k : ℕ) (r : List Piece) → text_of (spaces k r) ≡ blanks k ++ text_of r
spaces_bytes zero r = refl
spaces_bytes (suc k) r = ap (λ (x : List ℕ). 32 ∷ x) (spaces_bytes k r)

spaces_fine : (k : ℕ) (r : List Piece) → Fine r → Fine (spaces k r)
spaces_fine zero r h = h
spaces_fine (suc k) r h = space_fine (spaces_fine k r h)

spaces_seen : (n c k : ℕ) (r : List Piece) → seen (put n c) (spaces k r) ≡ seen (put n (c + k)) r
spaces_seen n c zero r = ap (λ (d : ℕ). seen (put n d) r) (omega arith)
spaces_seen n c (suc k) r = spaces_seen n (c + 1) k r ∙ ap (λ (d : ℕ). seen (put n d) r) (omega arith)

indent : (n k : ℕ) → Chunk any (put n 1) (blanks k) (λ r. r) (put n (1 + k))
indent n k = record { pieces = spaces k; bytes = spaces_bytes k; fine = λ r h e. spaces_fine k r h; seen = spaces_seen n 1 k; passes = λ r. refl }

-- a line, where what is in it may stand before LF
pub line_of : (n k : ℕ) {need : List ℕ → Bool} {w : List ℕ} {s : Tokens} {q : Place} → Chunk need (put n (1 + k)) w s q → ((x : List ℕ) → need (10 ∷ x) ≡ true) → Chunk any (put n 1) (line k w) s (put (q.line + 1) 1)
line_of n k {q = q} c f = join (join (indent n k) c (λ x e. refl)) (newline q) (λ x e. f x)

-- ---- signs, marks and words

pub sign_blank : (p : Place) (o : Op) → IsSpelled (tk.sign o) → Chunk (at_byte 32) p (tk.op_text o) (see p (tk.sign o)) (after p (tk.op_text o))
sign_blank p o sp = one (at_byte 32) p (tk.sign o) sp (before_byte 32 (Before (tk.sign o)) (sign_fits o)) (passes_sign p (tk.sign o) refl refl)

-- ` = `, with a blank on each side
pub spaced_sign : (p : Place) (o : Op) → IsSpelled (tk.sign o) → (let q = after p (codes " ") in Chunk any p (codes " " ++ (tk.op_text o ++ codes " ")) (see q (tk.sign o)) (after (after q (tk.op_text o)) (codes " ")))
spaced_sign p o sp = (let q = after p (codes " ") in join (space p) (join (sign_blank q o sp) (space (after q (tk.op_text o))) (λ x e. refl)) (λ x e. refl))

pub key_blank : (p : Place) (k : Key) → Chunk (at_byte 32) p (tk.key_text k) (see p (tk.key k)) (after p (tk.key_text k))
key_blank p k = one (at_byte 32) p (tk.key k) (key_spelled k) (before_byte 32 (Before (tk.key k)) (key_fits k)) (passes_sign p (tk.key k) refl refl)

pub defines_blank : (p : Place) → Chunk (at_byte 32) p (codes "==") (see p (tk.mark tk.defines)) (after p (codes "=="))
defines_blank p = one (at_byte 32) p (tk.mark tk.defines) (mark_spelled tk.defines) (before_byte 32 (Before (tk.mark tk.defines)) defines_fits) (passes_sign p (tk.mark tk.defines) refl refl)

pub colon_blank : (p : Place) → Chunk (at_byte 32) p (codes ":") (see p (tk.mark tk.colon)) (after p (codes ":"))
colon_blank p = one (at_byte 32) p (tk.mark tk.colon) (mark_spelled tk.colon) (before_byte 32 (Before (tk.mark tk.colon)) colon_fits) (passes_sign p (tk.mark tk.colon) refl refl)

-- before anything
mark_any : (p : Place) (m : Mark) → ((x : List ℕ) → Before (tk.mark m) x) → Chunk any p (tk.mark_text m) (see p (tk.mark m)) (after p (tk.mark_text m))
mark_any p m b = one any p (tk.mark m) (mark_spelled m) (λ x e. b x) (passes_sign p (tk.mark m) refl refl)

pub close : (p : Place) → Chunk any p (codes ")") (see p (tk.mark tk.close_bracket)) (after p (codes ")"))
close p = mark_any p tk.close_bracket close_bracket_fits

pub prime : (p : Place) → Chunk any p (codes "'") (see p (tk.mark tk.prime)) (after p (codes "'"))
prime p = mark_any p tk.prime prime_fits

pub open_tuple : (p : Place) → Chunk any p (codes "<<") (see p (tk.mark tk.open_tuple)) (after p (codes "<<"))
open_tuple p = mark_any p tk.open_tuple open_tuple_fits

pub close_tuple : (p : Place) → Chunk any p (codes ">>") (see p (tk.mark tk.close_tuple)) (after p (codes ">>"))
close_tuple p = mark_any p tk.close_tuple close_tuple_fits

pub open_round : (p : Place) → Chunk starts p (codes "(") (see p (tk.mark tk.open_bracket)) (after p (codes "("))
open_round p = one starts p (tk.mark tk.open_bracket) (mark_spelled tk.open_bracket) open_bracket_fits (passes_sign p (tk.mark tk.open_bracket) refl refl)

-- at a line's end
pub and_line : (p : Place) → Chunk (at_byte 10) p (codes "/\\") (see p (tk.sign op.And)) (after p (codes "/\\"))
and_line p = one (at_byte 10) p (tk.sign op.And) (sign_spelled op.And) (before_byte 10 (Before (tk.sign op.And)) (λ r. (refl, marks_before 47 10 (92 ∷ []) r refl refl refl, refl, refl, tt))) (passes_sign p (tk.sign op.And) refl refl)

pub or_line : (p : Place) → Chunk (at_byte 10) p (codes "\\/") (see p (tk.sign op.Or)) (after p (codes "\\/"))
or_line p = one (at_byte 10) p (tk.sign op.Or) (sign_spelled op.Or) (before_byte 10 (Before (tk.sign op.Or)) (λ r. (refl, marks_before 92 10 (47 ∷ []) r refl refl refl, refl, refl, tt))) (passes_sign p (tk.sign op.Or) refl refl)

pub defines_line : (p : Place) → Chunk (at_byte 10) p (codes "==") (see p (tk.mark tk.defines)) (after p (codes "=="))
defines_line p = one (at_byte 10) p (tk.mark tk.defines) (mark_spelled tk.defines) (before_byte 10 (Before (tk.mark tk.defines)) (λ r. (refl, marks_before 61 10 (61 ∷ []) r refl refl refl, refl, refl, tt))) (passes_sign p (tk.mark tk.defines) refl refl)

pub colon_line : (p : Place) → Chunk (at_byte 10) p (codes ":") (see p (tk.mark tk.colon)) (after p (codes ":"))
colon_line p = one (at_byte 10) p (tk.mark tk.colon) (mark_spelled tk.colon) (before_byte 10 (Before (tk.mark tk.colon)) (λ r. (refl, marks_before 58 10 [] r refl refl refl, refl, refl, tt))) (passes_sign p (tk.mark tk.colon) refl refl)

-- words
pub then_word : (p : Place) → Chunk ends_word p (codes "THEN") (see p (tk.key tk.then_key)) (after p (codes "THEN"))
then_word p = one ends_word p (tk.key tk.then_key) (key_spelled tk.then_key) (λ x e. word_fits (tk.key tk.then_key) (codes "THEN") x refl (refl, refl) tt e) (passes_sign p (tk.key tk.then_key) refl refl)

pub else_word : (p : Place) → Chunk ends_word p (codes "ELSE") (see p (tk.key tk.else_key)) (after p (codes "ELSE"))
else_word p = one ends_word p (tk.key tk.else_key) (key_spelled tk.else_key) (λ x e. word_fits (tk.key tk.else_key) (codes "ELSE") x refl (refl, refl) tt e) (passes_sign p (tk.key tk.else_key) refl refl)

pub in_word : (p : Place) → Chunk ends_word p (codes "IN") (see p (tk.key tk.in_key)) (after p (codes "IN"))
in_word p = one ends_word p (tk.key tk.in_key) (key_spelled tk.in_key) (λ x e. word_fits (tk.key tk.in_key) (codes "IN") x refl (refl, refl) tt e) (passes_sign p (tk.key tk.in_key) refl refl)

pub unchanged_word : (p : Place) → Chunk ends_word p (codes "UNCHANGED") (see p (tk.other (codes "UNCHANGED"))) (after p (codes "UNCHANGED"))
unchanged_word p = one ends_word p (tk.other (codes "UNCHANGED")) (name (codes "UNCHANGED"), (refl, (refl, refl)), refl) (λ x e. word_fits (tk.other (codes "UNCHANGED")) (codes "UNCHANGED") x refl (refl, refl) tt e) (passes_sign p (tk.other (codes "UNCHANGED")) refl refl)

-- ---- a bullet and a blank

pub and_bullet : (n k : ℕ) → Chunk any (put n (1 + k)) (codes "/\\ ") (see (put n (1 + k)) (tk.sign op.And)) (after (put n (1 + k)) (codes "/\\ "))
and_bullet n k = (let p = put n (1 + k) in join (sign_blank p op.And (sign_spelled op.And)) (space (after p (codes "/\\"))) (λ x e. refl))

pub or_bullet : (n k : ℕ) → Chunk any (put n (1 + k)) (codes "\\/ ") (see (put n (1 + k)) (tk.sign op.Or)) (after (put n (1 + k)) (codes "\\/ "))
or_bullet n k = (let p = put n (1 + k) in join (sign_blank p op.Or (sign_spelled op.Or)) (space (after p (codes "\\/"))) (λ x e. refl))

-- what is after it is right of it
pub after_and : (n k : ℕ) → Right (1 + k) (after (put n (1 + k)) (codes "/\\ "))
after_and n k = lt-ltb (1 + k) (1 + k + 1 + 1 + 1) (omega arith)

pub after_or : (n k : ℕ) → Right (1 + k) (after (put n (1 + k)) (codes "\\/ "))
after_or n k = lt-ltb (1 + k) (1 + k + 1 + 1 + 1) (omega arith)
