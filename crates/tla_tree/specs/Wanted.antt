-- What is wanted where reading an expression is refused: of each form and list that is open there the tokens that still have to come, the innermost first.
use Rattle.std.specs.Prelude.{ℕ, suc, Bool, true, false, List, [], ◌∷◌, ◌++◌, Option, Some, None, Ok, Err}
use Rattle.tla_token.specs.declared.place.Place.{Place}
use Rattle.tla_tree.specs.declared.op.Op.{Op}
use Rattle.tla_tree.specs.Tree.{Word}
use Rattle.tla_tree.specs.Lexical.{Mark, Key, Token, token}
use Rattle.tla_tree.specs.Lexical as tk
use Rattle.tla_tree.specs.Reader.{Out, Room, Readers, within}

-- ---- tokens that can be put anywhere to the right of the edge
abbrev pub after : ℕ → Place
after e = record { line = 0; col = suc e }

abbrev pub mark_at : ℕ → Mark → Token
mark_at e m = token (after e) (tk.mark m)

abbrev pub key_at : ℕ → Key → Token
key_at e k = token (after e) (tk.key k)

abbrev pub sign_at : ℕ → Op → Token
sign_at e o = token (after e) (tk.sign o)

abbrev pub number_at : ℕ → Token
number_at e = token (after e) (tk.number 0)

abbrev pub an_x : Word
an_x = 120 ∷ []

abbrev pub word_at : ℕ → Token
word_at e = token (after e) (tk.word an_x)

-- a bullet in its column
abbrev pub bullet_at : ℕ → Op → Token
bullet_at c o = token (record { line = 0; col = c }) (tk.sign o)

-- ---- wants
abbrev pub Want : Type 0
Want = List Token

abbrev pub Wants : Type 0
Wants = List Want

-- the tokens of all of them, one behind the other
abbrev pub completing : Wants → List Token
completing [] = []
completing (w ∷ ws) = w ++ completing ws

-- what the form round them wants comes after them
abbrev pub around : Wants → Want → Wants
around ws [] = ws
around ws (t ∷ w) = ws ++ (t ∷ w) ∷ []

-- what is wanted where the reading of these tokens is refused
abbrev pub Need : Type 0
Need = List Token → Wants

-- where a part is refused, and else where what comes after it is
abbrev pub or_then : {A W : Type 0} → Out A → W → (A → List Token → W) → W
or_then (Ok x) ws f = f x.0 x.1
or_then (Err s) ws f = ws

-- the same where one more form is open; where that is too deep, the wants are told
abbrev pub need_by : Option Readers → Wants → (Readers → Need) → Need
need_by (Some d) ws f ts = f d ts
need_by None ws f ts = ws

abbrev pub need_opened : Room → ℕ → Wants → (Room → Readers → Need) → Need
need_opened m k ws f = need_by (m.at (suc k)) ws (f (within k m))

abbrev pub need_after : Room → Option ℕ → (Room → Readers → Need) → Need
need_after m (Some k) f ts = need_opened m k [] f ts
need_after m None f ts = []

-- where a phrase fits, and where it doesn't
abbrev pub need_fit : Bool → Wants → Need → Need
need_fit true ws f ts = f ts
need_fit false ws f ts = ws

abbrev pub a_number : ℕ → Wants
a_number e = (number_at e ∷ []) ∷ []

abbrev pub a_close : ℕ → Mark → Wants
a_close e m = (mark_at e m ∷ []) ∷ []
