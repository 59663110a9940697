-- Where the parts of a translation are read, and within which bound.
use Rattle.std.specs.Prelude.{ℕ, ◌≤◌, length}
use Rattle.tla_token.specs.declared.place.Place.{Place}
use Rattle.tla_token.specs.declared.token.Tokens.{Tokens}
use Rattle.tla_tree.specs.declared.op.Op.TheVariants as op
use Rattle.tla_tree.specs.Nesting.{deepest_in_module}
use Rattle.tla_tree.specs.Reader.{Reader, ◌>>=◌, gives, take, bullet_of}
use Rattle.tla_tree.specs.Whole.{read_bounded}
use Rattle.expr_nodes.specs.declared.spot.Spot.{Spot}
use Rattle.tla_expr.specs.Numbers.{NumbersFit}
use Rattle.module_tree.specs.Grammar.{ItemForm, ListForm}
use Rattle.region_reading.specs.Bound.{Bound, bounded}
use Rattle.region_reading.specs.ItemReader.{whole_items}

-- l forms may be open
abbrev pub bound : ℕ → Bound
bound l = bounded read_bounded l

-- reading may begin there
pub record MayBegin (v : Tokens) (s : Spot) : Type 0 where
  -- at a token or at the end
  pub there : s.at ≤ length v.items.items
  -- each number among the tokens fits
  pub numbers : NumbersFit v
  -- no more forms may open than in any module
  pub limited : s.left ≤ deepest_in_module

-- a bullet in this column, and an item to the right of it
abbrev pub one_item : ℕ → ℕ → ℕ → Reader (Place × ItemForm)
one_item l e c = take e (bullet_of op.And c) >>= λ p. whole_items.item (bound l) c >>= λ i. gives (p, i)

-- a bullet in this column, and a list to the right of it
abbrev pub one_branch : ℕ → ℕ → ℕ → Reader (Place × ListForm)
one_branch l e c = take e (bullet_of op.Or c) >>= λ p. whole_items.list (bound l) c >>= λ is. gives (p, is)
