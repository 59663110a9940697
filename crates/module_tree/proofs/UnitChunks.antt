-- The units of a translation as they are written: from the start of a line on each is cut into just the tokens of a form of the unit, and begins a unit there.
use Rattle.std.proofs.Common.{◌≡◌, ℕ, ◌+◌, Bool, true, false, List, [], ◌∷◌, ◌++◌, refl, sym, ap, ◌∙◌, append_assoc, codes}
use Rattle.std.specs.List.{list_all}
use Rattle.std.proofs.lemmas.Bool.{and_parts}
use Rattle.tla_token.specs.declared.place.Place.{Place}
use Rattle.tla_token.specs.Places.{step, after}
use Rattle.tla_token.specs.Lexemes.{name, is_word}
use Rattle.tla_token.specs.Tokens.{Piece, lexeme, text_of}
use Rattle.tla_token.proofs.Words.{word_at}
use Rattle.tla_token.proofs.OneLine.{all_stay}
use Rattle.tla_tree.specs.Tree.{Word}
use Rattle.tla_tree.specs.Lexical.{TokenView, Token, token}
use Rattle.tla_tree.specs.Lexical as tk
use Rattle.tla_tree.specs.Spelling.{Right}
use Rattle.tla_tree.specs.laws.Writable.{IsIdentifier}
use Rattle.tla_tree.specs.laws.InText.{ends_word}
use Rattle.tla_tree.proofs.FitTokens.{word_fits, name_wordy}
use Rattle.tla_tree.proofs.SpelledTokens.{word_spelled}
use Rattle.module_tree.specs.FileUnits.{Cut, cut}
use Rattle.module_tree.specs.Grammar.{Tokens, see}
use Rattle.module_tree.specs.Layout.{line}
use Rattle.module_tree.proofs.Chunks.{put, Fine, token_fine, seen, Chunk, any, newline, over}

-- ---- where a unit begins

abbrev pub new_unit : Tokens → Cut → Cut
new_unit s c = record { front = []; units = s c.front ∷ c.units }

-- as a chunk, but a unit begins with it, and no other in it
pub record Start (need : List ℕ → Bool) (p : Place) (w : List ℕ) (s : Tokens) (q : Place) : Type 0 where
  pub pieces : List Piece → List Piece
  pub bytes : (r : List Piece) → text_of (pieces r) ≡ w ++ text_of r
  pub fine : (r : List Piece) → Fine r → need (text_of r) ≡ true → Fine (pieces r)
  pub seen : (r : List Piece) → seen p (pieces r) ≡ s (seen q r)
  pub cuts : (r : List Token) → cut (s r) ≡ new_unit s (cut r)

pub onward : {m n : List ℕ → Bool} {p q t : Place} {v w : List ℕ} {s u : Tokens} → Start m p v s q → Chunk n q w u t → ((x : List ℕ) → n x ≡ true → m (w ++ x) ≡ true) → Start n p (v ++ w) (λ r. s (u r)) t
onward {m} {n} {p} {q} {t} {v} {w} {s} {u} a b f = record {
  pieces = λ r. a.pieces (b.pieces r);
  bytes = λ r. a.bytes (b.pieces r) ∙ ap (λ (x : List ℕ). v ++ x) (b.bytes r) ∙ sym (append_assoc v w (text_of r));
  fine = λ r h e. a.fine (b.pieces r) (b.fine r h e) (ap m (b.bytes r) ∙ f (text_of r) e);
  seen = λ r. a.seen (b.pieces r) ∙ ap s (b.seen r);
  cuts = λ r. a.cuts (u r) ∙ ap (new_unit s) (b.passes r);
}

-- the first line of a unit
pub first_line : {need : List ℕ → Bool} {p q : Place} {w : List ℕ} {s : Tokens} → Start need p w s q → ((x : List ℕ) → need (10 ∷ x) ≡ true) → Start any p (line 0 w) s (put (q.line + 1) 1)
first_line {q = q} c f = onward c (newline q) (λ x e. f x)

-- the title of a unit
pub title_at : (n : ℕ) (x : Word) → IsIdentifier x → Start ends_word (put n 1) x (see (put n 1) (tk.word x)) (after (put n 1) x)
title_at n x h =
    let sp = word_spelled x h in
    record {
      pieces = λ r. lexeme sp.0 x ∷ r;
      bytes = λ r. refl;
      fine = λ r f e. token_fine (tk.word x) sp.0 sp.1 sp.2 (word_fits (tk.word x) x (text_of r) refl (name_wordy x h.0) tt e) f;
      seen = λ r. ap (λ (j : TokenView). token (put n 1) j ∷ seen (after (put n 1) x) r) sp.2;
      cuts = λ r. refl;
    }

-- CONSTANT and VARIABLES
pub constant_word : (n : ℕ) → Start ends_word (put n 1) (codes "CONSTANT") (see (put n 1) (tk.other (codes "CONSTANT"))) (after (put n 1) (codes "CONSTANT"))
constant_word n = record {
  pieces = λ r. lexeme (name (codes "CONSTANT")) (codes "CONSTANT") ∷ r;
  bytes = λ r. refl;
  fine = λ r f e. token_fine (tk.other (codes "CONSTANT")) (name (codes "CONSTANT")) (refl, (refl, refl)) refl (word_fits (tk.other (codes "CONSTANT")) (codes "CONSTANT") (text_of r) refl (refl, refl) tt e) f;
  seen = λ r. refl;
  cuts = λ r. refl;
}

pub variables_word : (n : ℕ) → Start ends_word (put n 1) (codes "VARIABLES") (see (put n 1) (tk.other (codes "VARIABLES"))) (after (put n 1) (codes "VARIABLES"))
variables_word n = record {
  pieces = λ r. lexeme (name (codes "VARIABLES")) (codes "VARIABLES") ∷ r;
  bytes = λ r. refl;
  fine = λ r f e. token_fine (tk.other (codes "VARIABLES")) (name (codes "VARIABLES")) (refl, (refl, refl)) refl (word_fits (tk.other (codes "VARIABLES")) (codes "VARIABLES") (text_of r) refl (refl, refl) tt e) f;
  seen = λ r. refl;
  cuts = λ r. refl;
}

-- after a title all is right of column 1
pub past_title : (n : ℕ) (x : Word) → IsIdentifier x → Right 1 (after (put n 1) x)
past_title n [] h = (let f : false ≡ true = h.0.1 in absurd cc)
past_title n (b ∷ w) h =
    let k = and_parts (is_word b) (list_all is_word w) h.0.0 in
    over 1 (step (put n 1) b) w (rw (word_at b 10 k.0 refl, word_at b 9 k.0 refl) refl) (all_stay is_word refl w k.1)
