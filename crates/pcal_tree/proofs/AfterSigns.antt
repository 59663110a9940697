-- After the sign of an operator no expression has a semicolon.
use Rattle.std.proofs.Common.{◌≡◌, Bool, true, false, not, ◌&&◌, List, [], ◌∷◌, refl}
use Rattle.tla_token.specs.declared.place.Place.{Place}
use Rattle.tla_tree.specs.Lexical.{TokenView, Token, token}
use Rattle.tla_tree.specs.Lexical as tk
use Rattle.tla_tree.specs.Spelling.{Phrase, spell}
use Rattle.pcal_tree.proofs.ExpressionTokens.{begins_phrase, Kept, phrase_begins, keep}
use Rattle.pcal_tree.proofs.ExpressionTokens as expression

-- an operand comes after it
abbrev pub needs : TokenView → Bool
needs (tk.sign o) = true
needs (tk.mark tk.assigns) = true
needs k = false

abbrev pub is_end : TokenView → Bool
is_end (tk.mark tk.semicolon) = true
is_end k = false

abbrev pub first_ends : List Token → Bool
first_ends [] = false
first_ends (t ∷ ts) = is_end t.kind

-- no semicolon comes right after what needs an operand
abbrev pub sound : List Token → Bool
sound [] = true
sound (t ∷ ts) = not (needs t.kind && first_ends ts) && sound ts

abbrev pub Sound : List Token → Type 0
Sound ts = sound ts ≡ true

both_true : (a b : Bool) → a ≡ false → b ≡ true → (not a && b) ≡ true
both_true true b p q = cc
both_true false b p q = q

neither : (a b : Bool) → b ≡ false → (a && b) ≡ false
neither true b h = h
neither false b h = refl

pub after : (k : TokenView) (p : Place) (ts : List Token) → first_ends ts ≡ false → Sound ts → Sound (token p k ∷ ts)
after k p ts f so = both_true (needs k && first_ends ts) (sound ts) (neither (needs k) (first_ends ts) f) so

-- ---- expressions

no_end : (k : TokenView) → expression.is_first k ≡ true → is_end k ≡ false
no_end (tk.mark tk.semicolon) h = absurd cc
no_end k h = refl

pub begins_on : (ts : List Token) → begins_phrase ts ≡ true → first_ends ts ≡ false
begins_on [] h = refl
begins_on (t ∷ ts) h = no_end t.kind h

plain : (k : TokenView) → expression.needs k ≡ false → (b : Bool) → (needs k && b) ≡ false
plain (tk.sign o) h b = absurd cc
plain (tk.mark tk.assigns) h b = absurd cc
plain k h b = refl

pub kept : Kept Sound
kept = record {
  plain = λ t ts e so. both_true (needs t.kind && first_ends ts) (sound ts) (plain t.kind e (first_ends ts)) so;
  before_phrase = λ t ts f so. after t.kind t.place ts (begins_on ts f) so;
}

pub keeps_one : (x : Phrase) (ts : List Token) → Sound ts → Sound (spell x ts)
keeps_one x ts h = (keep kept x).keeps ts h
