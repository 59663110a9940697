-- An expression in brackets, and what is behind the first bullet of Terminating, as functions of the tokens.
use Rattle.std.specs.Prelude.{ℕ, codes}
use Rattle.tla_token.specs.declared.place.Place.{Place}
use Rattle.tla_tree.specs.declared.op.Op.TheVariants as op
use Rattle.tla_tree.specs.Lexical as tk
use Rattle.tla_tree.specs.Spelling.{Phrase}
use Rattle.tla_tree.specs.Reader.{Reader, ◌>>=◌, gives, take, bullet_of, a_mark}
use Rattle.module_tree.specs.Units.{UnitForm, terminating_form}
use Rattle.region_reading.specs.Bound.{Bound, deeper, a_phrase, opening}
use Rattle.region_reading.specs.NameReader.{a_keyword, a_title}

-- (e)
pub record BracketForm : Type 0 where
  pub left : Place
  pub inner : Phrase
  pub right : Place

abbrev pub closed_in : Bound → ℕ → Place → Reader BracketForm
closed_in m e p = a_phrase m e >>= λ a. a_mark e tk.close_bracket >>= λ q. gives (record { left = p; inner = a; right = q })

abbrev pub bracketed_in : Bound → ℕ → Reader BracketForm
bracketed_in m e = opening m (a_mark e tk.open_bracket) >>= λ p. closed_in (deeper m) e p

-- (e) /\ UNCHANGED vars, behind the bullet at s
abbrev pub behind_bullet : Bound → Place → Place → Place → Reader UnitForm
behind_bullet m p q s =
    bracketed_in m s.col >>= λ f. take 1 (bullet_of op.And s.col) >>= λ v. opening m (a_keyword s.col (codes "UNCHANGED")) >>= λ w. a_title s.col (codes "vars") >>= λ z.
    gives (terminating_form p q s f.left f.inner f.right v w z)
