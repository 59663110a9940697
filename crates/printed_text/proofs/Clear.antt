-- Texts without marks of comments: in front of one, what is calm gives one.
use Rattle.std.proofs.Common.{◌≡◌, ◌⊎◌, ℕ, Bool, true, false, ◌&&◌, ◌||◌, nat_eq, List, [], ◌∷◌, ◌++◌, refl, ap, ◌∙◌, inl, inr, codes, append_assoc, if◌then◌else◌}
use Rattle.std.specs.List.{list_all, starts_with}
use Rattle.std.proofs.lemmas.Bool.{and_parts, or_parts}
use Rattle.tla_token.specs.Lexemes.{is_word}
use Rattle.tla_token.specs.Tokens.{holds_mark, opens_comment}
use Rattle.tla_token.proofs.Words.{at_word}
use Rattle.tla_tree.specs.declared.op.Op.{Op}
use Rattle.tla_tree.specs.declared.op.Op.TheVariants as op
use Rattle.tla_tree.specs.Lexical.{TokenView, Mark, Key, escaped, escapes, token_text}
use Rattle.tla_tree.specs.Lexical as tk
use Rattle.tla_tree.specs.Written.{Piece, blank, token, text_of}
use Rattle.tla_tree.proofs.FitTrees.{Fit}
use Rattle.printed_text.proofs.Calm.{IsCalm, AreCalm}

-- ---- words
pub words_clear : (w x : List ℕ) → list_all is_word w ≡ true → holds_mark (w ++ x) ≡ holds_mark x
words_clear [] x h = refl
words_clear (b ∷ w) x h = (let p = and_parts (is_word b) (list_all is_word w) h in rw (at_word 40 b p.0 refl, at_word 42 b p.0 refl) (words_clear w x p.1))

-- ---- strings

-- a character by itself, or a backslash and one that is in no mark
abbrev Sort : ℕ → List ℕ → Type 0
Sort b w = ((e : ℕ) × (w ≡ 92 ∷ e ∷ []) × (nat_eq 40 e ≡ false) × (nat_eq 42 e ≡ false)) ⊎ (w ≡ b ∷ [])

escape_or : (c : Bool) (b e : ℕ) (rest : List ℕ) → nat_eq 40 e ≡ false → nat_eq 42 e ≡ false → Sort b rest → Sort b (if c then 92 ∷ e ∷ [] else rest)
escape_or true b e rest n m s = inl (e, refl, n, m)
escape_or false b e rest n m s = s

escaped_is : (b : ℕ) → Sort b (escaped b)
escaped_is b = escape_or (nat_eq b 34) b 34 _ refl refl (escape_or (nat_eq b 92) b 92 _ refl refl (escape_or (nat_eq b 9) b 116 _ refl refl (escape_or (nat_eq b 10) b 110 _ refl refl (escape_or (nat_eq b 12) b 102 _ refl refl (escape_or (nat_eq b 13) b 114 _ refl refl (inr refl))))))

-- what the second byte of a mark would be
escaped_first : (q : ℕ) → nat_eq q 34 ≡ false → nat_eq q 92 ≡ false → (w y : List ℕ) → starts_with nat_eq w (q ∷ []) ≡ false → starts_with nat_eq (escapes w ++ 34 ∷ y) (q ∷ []) ≡ false
escaped_first q n m [] y h = rw n refl
escaped_first q n m (c ∷ w) y h = elim (escaped_is c) [ inl (e, i, k, l) ↦ rw (i, m) refl | inr i ↦ rw i (only (nat_eq q c) h) ]
  where
    only : (a : Bool) → (a && true) ≡ false → (a && true) ≡ false
    only a k = k

second_clear : (p : Bool) (u v : Bool) → (p && u) ≡ false → (u ≡ false → v ≡ false) → (p && v) ≡ false
second_clear false u v h f = refl
second_clear true u v h f = f h

pub escapes_clear : (w y : List ℕ) → holds_mark w ≡ false → holds_mark (34 ∷ y) ≡ false → holds_mark (escapes w ++ 34 ∷ y) ≡ false
escapes_clear [] y h k = k
escapes_clear (b ∷ w) y h k =
    let p = or_parts (starts_with nat_eq (b ∷ w) (codes "(*") || starts_with nat_eq (b ∷ w) (codes "*)")) (holds_mark w) h in
    let s = or_parts (starts_with nat_eq (b ∷ w) (codes "(*")) (starts_with nat_eq (b ∷ w) (codes "*)")) p.0 in
    let more : holds_mark (escapes w ++ 34 ∷ y) ≡ false = escapes_clear w y p.1 k in
    ap holds_mark (append_assoc (escaped b) (escapes w) (34 ∷ y)) ∙ elim (escaped_is b) [
      | inl (e, i, n, m) ↦ rw (i, n, m) more
      | inr i ↦ rw i (by (escapes w ++ 34 ∷ y) (second_clear (nat_eq 40 b) (starts_with nat_eq w (codes "*")) (starts_with nat_eq (escapes w ++ 34 ∷ y) (codes "*")) s.0 (escaped_first 42 refl refl w y)) (second_clear (nat_eq 42 b) (starts_with nat_eq w (codes ")")) (starts_with nat_eq (escapes w ++ 34 ∷ y) (codes ")")) s.1 (escaped_first 41 refl refl w y)) more)
    ]
  where
    by : (r : List ℕ) → (nat_eq 40 b && starts_with nat_eq r (codes "*")) ≡ false → (nat_eq 42 b && starts_with nat_eq r (codes ")")) ≡ false → holds_mark r ≡ false → holds_mark (b ∷ r) ≡ false
    by r n m g = rw (n, m) g

-- ---- signs
round_clear : (x : List ℕ) → opens_comment (40 ∷ x) ≡ false → holds_mark x ≡ false → holds_mark (40 ∷ x) ≡ false
round_clear x o h = (let s = or_parts (starts_with nat_eq (40 ∷ x) (codes "(*")) (starts_with nat_eq (40 ∷ x) (codes "\\*")) o in rw s.0 h)

pub mark_clear : (m : Mark) (x : List ℕ) → opens_comment (token_text (tk.mark m) ++ x) ≡ false → holds_mark x ≡ false → holds_mark (token_text (tk.mark m) ++ x) ≡ false
mark_clear tk.open_bracket x o h = round_clear x o h
mark_clear m x o h = h

-- a blank is behind each `*`
sign_clear : (o : Op) (ps : List Piece) (r : List ℕ) → IsCalm (tk.sign o) ps → holds_mark (text_of ps ++ r) ≡ false → holds_mark (token_text (tk.sign o) ++ (text_of ps ++ r)) ≡ false
sign_clear op.Times (blank ∷ ps) r c h = h
sign_clear op.Times [] r c h = absurd cc
sign_clear op.Times (token k ∷ ps) r c h = absurd cc
sign_clear o ps r c h = h

key_clear : (k : Key) (x : List ℕ) → holds_mark x ≡ false → holds_mark (token_text (tk.key k) ++ x) ≡ false
key_clear tk.if_key x h = h
key_clear k x h = h

pub token_clear : (k : TokenView) (ps : List Piece) (r : List ℕ) → IsCalm k ps → opens_comment (token_text k ++ (text_of ps ++ r)) ≡ false → holds_mark (text_of ps ++ r) ≡ false → holds_mark (token_text k ++ (text_of ps ++ r)) ≡ false
token_clear (tk.sign o) ps r c i h = sign_clear o ps r c h
token_clear (tk.word x) ps r c i h = words_clear x _ c ∙ h
token_clear (tk.reserved x) ps r c i h = words_clear x _ c ∙ h
token_clear (tk.number n) ps r c i h = words_clear (token_text (tk.number n)) _ c ∙ h
token_clear (tk.string x) ps r c i h = ap holds_mark (append_assoc (escapes x) (codes "\"") (text_of ps ++ r)) ∙ escapes_clear x (text_of ps ++ r) c h
token_clear (tk.constant (tk.truth true)) ps r c i h = h
token_clear (tk.constant (tk.truth false)) ps r c i h = h
token_clear (tk.constant tk.booleans) ps r c i h = h
token_clear (tk.constant tk.strings) ps r c i h = h
token_clear (tk.mark m) ps r c i h = mark_clear m _ i h
token_clear (tk.key k) ps r c i h = key_clear k _ h
token_clear (tk.other w) ps r c i h = absurd c

pub pieces_clear : (ps : List Piece) (r : List ℕ) → AreCalm ps → Fit r ps → holds_mark r ≡ false → holds_mark (text_of ps ++ r) ≡ false
pieces_clear [] r c f h = h
pieces_clear (blank ∷ ps) r c f h = pieces_clear ps r c f h
pieces_clear (token k ∷ ps) r c f h = ap holds_mark (append_assoc (token_text k) (text_of ps) r) ∙ token_clear k ps r c.0 f.0.0 (pieces_clear ps r c.1 f.1 h)
