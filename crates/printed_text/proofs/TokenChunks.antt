-- Names, reserved words, marks and signs as chunks of a text.
use Rattle.std.proofs.Common.{◌≡◌, ℕ, Bool, true, List, [], ◌∷◌, ◌++◌, refl, ap, ◌∙◌, codes}
use Rattle.tla_token.specs.declared.place.Place.{Place}
use Rattle.tla_token.specs.Tokens.{text_of}
use Rattle.tla_token.specs.Words.{is_pluscal_word}
use Rattle.tla_token.specs.Lexemes.{IsName, name}
use Rattle.tla_token.proofs.Before.{marks_before, marks_alone}
use Rattle.tla_tree.specs.declared.op.Op.{Op}
use Rattle.tla_tree.specs.declared.op.Op.TheVariants as op
use Rattle.tla_tree.specs.Tree.{Word}
use Rattle.tla_tree.specs.Lexical.{TokenView, Mark}
use Rattle.tla_tree.specs.Lexical as tk
use Rattle.tla_tree.specs.Spelling.{Right}
use Rattle.tla_tree.specs.laws.Writable.{IsIdentifier, IsSpelled}
use Rattle.tla_tree.specs.laws.InText.{ends_word}
use Rattle.tla_tree.proofs.SpelledTokens.{word_spelled, mark_spelled, sign_spelled}
use Rattle.tla_tree.proofs.FitTokens.{Before, starts, name_wordy, word_fits, word_starts, sign_fits, comma_fits, colon_fits, defines_fits, open_bracket_fits, close_bracket_fits, open_brace_fits, close_brace_fits}
use Rattle.pcal_tree.specs.declared.mark.Mark.{Mark as Marking}
use Rattle.pcal_tree.specs.declared.mark.Mark.TheVariants as marked
use Rattle.pcal_tree.specs.Marks.{text_of_mark}
use Rattle.pcal_tree.specs.Algorithm.{Name, Statements}
use Rattle.pcal_tree.specs.Algorithm as statement
use Rattle.pcal_tree.specs.GrammarParts.{Tokens, token, word, key, mark, Colon, colon_plus, colon_minus, colon_tokens, no_labels, label, with_labels}
use Rattle.pcal_tree.specs.GrammarParts as grammar
use Rattle.printed_text.proofs.Calm.{IsCalm}
use Rattle.printed_text.proofs.Chunks.{Chunk, any, join, one, space}
use Rattle.module_tree.proofs.Chunks.{before_byte, at_byte}
use Rattle.module_tree.proofs.ExprChunks.{name_starts}

-- before less
pub narrowed : {p : Place} {w : List ℕ} {s : Tokens} (need : List ℕ → Bool) → Chunk any p w s → Chunk need p w s
narrowed need c = record { end = c.end; right = c.right; pieces = c.pieces; bytes = c.bytes; fine = λ r f e. c.fine r f refl; seen = c.seen }

-- the same tokens, said otherwise
pub retold : {need : List ℕ → Bool} {p : Place} {w : List ℕ} {s u : Tokens} → ((ts : List tk.Token) → s ts ≡ u ts) → Chunk need p w s → Chunk need p w u
retold f c = record { end = c.end; right = c.right; pieces = c.pieces; bytes = c.bytes; fine = c.fine; seen = λ r. c.seen r ∙ f _ }

-- the same text
pub reworded : {need : List ℕ → Bool} {p : Place} {w v : List ℕ} {s : Tokens} → w ≡ v → Chunk need p w s → Chunk need p v s
reworded e c = record { end = c.end; right = c.right; pieces = c.pieces; bytes = λ r. c.bytes r ∙ ap (λ (x : List ℕ). x ++ text_of r) e; fine = c.fine; seen = c.seen }

-- ---- words

pub name_at : (p : Place) → Right 0 p → (x : Word) → IsIdentifier x → Chunk ends_word p x (word p x)
name_at p r x h = one ends_word p (tk.word x) r (word_spelled x h) h.0.0 (λ y e. word_fits (tk.word x) x y refl (name_wordy x h.0) tt e)

-- a reserved word of PlusCal
pub key_at : (p : Place) → Right 0 p → (w : Word) → is_pluscal_word w ≡ true → IsName w → Chunk ends_word p w (key p w)
key_at p r w h n = one ends_word p (tk.reserved w) r (name w, (refl, n), rw h refl) n.0 (λ y e. word_fits (tk.reserved w) w y refl (name_wordy w n) tt e)

-- and a blank
pub key_space : (p : Place) → Right 0 p → (w : Word) → is_pluscal_word w ≡ true → IsName w → Chunk any p (w ++ codes " ") (key p w)
key_space p r w h n = (let k = key_at p r w h n in join k (space k.end k.right) (λ x e. refl))

-- ---- marks

mark_any : (p : Place) → Right 0 p → (m : Mark) → IsCalm (tk.mark m) [] → ((x : List ℕ) → Before (tk.mark m) x) → Chunk any p (tk.mark_text m) (mark p m)
mark_any p r m c b = one any p (tk.mark m) r (mark_spelled m) c (λ x e. b x)

-- before a blank
mark_blank : (p : Place) → Right 0 p → (m : Mark) → IsCalm (tk.mark m) [] → ((x : List ℕ) → Before (tk.mark m) (32 ∷ x)) → Chunk any p (tk.mark_text m ++ codes " ") (mark p m)
mark_blank p r m c b =
    let k = one (at_byte 32) p (tk.mark m) r (mark_spelled m) c (before_byte 32 (Before (tk.mark m)) b) in
    join k (space k.end k.right) (λ x e. refl)

pub semicolon_at : (p : Place) → Right 0 p → Chunk any p (codes ";") (mark p tk.semicolon)
semicolon_at p r = mark_any p r tk.semicolon tt (λ x. (refl, marks_alone 59 [] refl refl (λ c. refl) x, refl, refl, tt))

pub open_round : (p : Place) → Right 0 p → Chunk starts p (codes "(") (mark p tk.open_bracket)
open_round p r = one starts p (tk.mark tk.open_bracket) r (mark_spelled tk.open_bracket) tt open_bracket_fits

pub close_round : (p : Place) → Right 0 p → Chunk any p (codes ")") (mark p tk.close_bracket)
close_round p r = mark_any p r tk.close_bracket tt close_bracket_fits

pub open_curly : (p : Place) → Right 0 p → Chunk any p (codes "{") (mark p tk.open_brace)
open_curly p r = mark_any p r tk.open_brace tt open_brace_fits

pub close_curly : (p : Place) → Right 0 p → Chunk any p (codes "}") (mark p tk.close_brace)
close_curly p r = mark_any p r tk.close_brace tt close_brace_fits

pub comma_space : (p : Place) → Right 0 p → Chunk any p (codes ", ") (mark p tk.comma)
comma_space p r = mark_blank p r tk.comma tt comma_fits

-- ---- between blanks

pub record Spaced (p : Place) (w : List ℕ) (k : TokenView) : Type 0 where
  pub place : Place
  pub chunk : Chunk any p w (token place k)

spaced_mark : (p : Place) → Right 0 p → (m : Mark) → IsCalm (tk.mark m) [] → ((x : List ℕ) → Before (tk.mark m) (32 ∷ x)) → Spaced p (codes " " ++ (tk.mark_text m ++ codes " ")) (tk.mark m)
spaced_mark p r m c b = (let s = space p r in record { place = s.end; chunk = join s (mark_blank s.end s.right m c b) (λ x e. refl) })

pub spaced_defines : (p : Place) → Right 0 p → Spaced p (codes " == ") (tk.mark tk.defines)
spaced_defines p r = spaced_mark p r tk.defines tt defines_fits

pub spaced_assigns : (p : Place) → Right 0 p → Spaced p (codes " := ") (tk.mark tk.assigns)
spaced_assigns p r = spaced_mark p r tk.assigns tt (λ x. (refl, marks_before 58 32 (61 ∷ []) x refl refl refl, refl, refl, tt))

pub spaced_beside : (p : Place) → Right 0 p → Spaced p (codes " || ") (tk.mark tk.beside)
spaced_beside p r = spaced_mark p r tk.beside tt (λ x. (refl, marks_before 124 32 (124 ∷ []) x refl refl refl, refl, refl, tt))

sign_space : (p : Place) → Right 0 p → (o : Op) → IsSpelled (tk.sign o) → IsCalm (tk.sign o) [] → Chunk any p (tk.op_text o ++ codes " ") (token p (tk.sign o))
sign_space p r o sp c =
    let k = one (at_byte 32) p (tk.sign o) r sp c (before_byte 32 (Before (tk.sign o)) (sign_fits o)) in
    join k (space k.end k.right) (λ x e. refl)

spaced_sign : (p : Place) → Right 0 p → (o : Op) → IsSpelled (tk.sign o) → IsCalm (tk.sign o) [] → Spaced p (codes " " ++ (tk.op_text o ++ codes " ")) (tk.sign o)
spaced_sign p r o sp c = (let s = space p r in record { place = s.end; chunk = join s (sign_space s.end s.right o sp c) (λ x e. refl) })

pub spaced_equal : (p : Place) → Right 0 p → Spaced p (codes " = ") (tk.sign op.Equal)
spaced_equal p r = spaced_sign p r op.Equal (sign_spelled op.Equal) tt

pub spaced_in : (p : Place) → Right 0 p → Spaced p (codes " \\in ") (tk.sign op.In)
spaced_in p r = spaced_sign p r op.In (sign_spelled op.In) tt

pub plus_space : (p : Place) → Right 0 p → Chunk any p (codes "+ ") (token p (tk.sign op.Plus))
plus_space p r = sign_space p r op.Plus (sign_spelled op.Plus) tt

-- ---- what is behind a label

colon_before : (c : ℕ) (p : Place) → Right 0 p → ((x : List ℕ) → Before (tk.mark tk.colon) (c ∷ x)) → Chunk (at_byte c) p (codes ":") (mark p tk.colon)
colon_before c p r b = one (at_byte c) p (tk.mark tk.colon) r (mark_spelled tk.colon) tt (before_byte c (Before (tk.mark tk.colon)) b)

pub record ColonAt (m : Marking) (p : Place) : Type 0 where
  pub colon : Colon
  pub marks : (x : Name) (ss : Statements) → with_labels (label x colon no_labels) ss ≡ statement.mark x m ss
  pub chunk : Chunk any p (text_of_mark m ++ codes " ") (colon_tokens colon)

pub colon_at : (m : Marking) (p : Place) → Right 0 p → ColonAt m p
colon_at marked.Plain p r = record { colon = grammar.colon p; marks = λ x ss. refl; chunk = mark_blank p r tk.colon tt colon_fits }
colon_at marked.Strong p r =
    let k = colon_before 43 p r (λ x. (refl, marks_before 58 43 [] x refl refl refl, refl, refl, tt)) in
    record { colon = colon_plus p k.end; marks = λ x ss. refl; chunk = join k (plus_space k.end k.right) (λ x e. refl) }
colon_at marked.LeftOut p r =
    let k = colon_before 45 p r (λ x. (refl, marks_before 58 45 [] x refl refl refl, refl, refl, tt)) in
    record { colon = colon_minus p k.end; marks = λ x ss. refl; chunk = join k (sign_space k.end k.right op.Minus (sign_spelled op.Minus) tt) (λ x e. refl) }
