-- Tokens that hold no mark of a comment, nor make one with the next: no prime among them.
use Rattle.std.proofs.Common.{◌≡◌, ℕ, ◌<◌, ◌^◌, Bool, true, false, not, List, [], ◌∷◌, refl}
use Rattle.std.specs.List.{list_all}
use Rattle.std.proofs.lemmas.Bool.{not-true}
use Rattle.tla_token.specs.Lexemes.{is_word}
use Rattle.tla_token.specs.Tokens.{holds_mark}
use Rattle.tla_tree.specs.declared.op.Op.{Op}
use Rattle.tla_tree.specs.declared.op.Op.TheVariants as op
use Rattle.tla_token.specs.Words.{is_pluscal_word}
use Rattle.tla_tree.specs.Tree.{Word}
use Rattle.tla_tree.specs.Lexical.{TokenView, Mark, Key, Constant, field_kind, escaped, escapes, op_text, token_text}
use Rattle.tla_tree.specs.Lexical as tk
use Rattle.tla_tree.specs.Written.{Piece, blank, token}
use Rattle.tla_tree.specs.laws.Writable.{IsIdentifier, IsField}
use Rattle.tla_tree.proofs.FitTokens.{number_wordy}

abbrev begins_blank : List Piece → Bool
begins_blank (blank ∷ ps) = true
begins_blank ps = false

-- before these pieces
abbrev pub IsCalm : TokenView → List Piece → Type 0
IsCalm (tk.mark tk.prime) ps = ⊥
IsCalm (tk.other w) ps = ⊥
IsCalm (tk.string x) ps = holds_mark x ≡ false
IsCalm (tk.sign op.Times) ps = begins_blank ps ≡ true
IsCalm (tk.word x) ps = list_all is_word x ≡ true
IsCalm (tk.reserved x) ps = list_all is_word x ≡ true
IsCalm (tk.number n) ps = list_all is_word (token_text (tk.number n)) ≡ true
IsCalm k ps = Unit {0}

abbrev pub AreCalm : List Piece → Type 0
AreCalm [] = Unit {0}
AreCalm (blank ∷ ps) = AreCalm ps
AreCalm (token k ∷ ps) = IsCalm k ps × AreCalm ps

pub sign_calm : (o : Op) (ps : List Piece) → IsCalm (tk.sign o) (blank ∷ ps)
sign_calm op.Times ps = refl
sign_calm o ps = tt

pub word_calm : (x : Word) → IsIdentifier x → list_all is_word x ≡ true
word_calm x h = h.0.0

pub field_calm : (x : Word) → IsField x → (ps : List Piece) → IsCalm (field_kind (is_pluscal_word x) x) ps
field_calm x h ps = by (is_pluscal_word x)
  where
    by : (b : Bool) → IsCalm (field_kind b x) ps
    by true = h.0.0
    by false = h.0.0

pub number_calm : (n : ℕ) → n < 2 ^ 127 → list_all is_word (token_text (tk.number n)) ≡ true
number_calm n h = (number_wordy n h).1

pub string_calm : (x : Word) → not (holds_mark x) ≡ true → holds_mark x ≡ false
string_calm x h = not-true (holds_mark x) h
