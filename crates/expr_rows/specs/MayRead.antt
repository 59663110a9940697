-- What the reader of a form may ask.
use Rattle.std.specs.Prelude.{ℕ, ◌≤◌, List, length, Result}
use Rattle.std.specs.Borrow.{MutBor}
use Rattle.tla_tree.specs.Nesting.{deepest_in_module}
use Rattle.tla_token.specs.declared.token.Tokens.{Tokens}
use Rattle.tla_tree.specs.Tree.{Tree}
use Rattle.expr_nodes.specs.declared.cursor.Halt.{Halt}
use Rattle.expr_nodes.specs.declared.make.Read.{Read}
use Rattle.expr_nodes.specs.declared.shape.Context.{Context}
use Rattle.expr_nodes.specs.declared.spot.Spot.{Spot}
use Rattle.expr_rows.specs.HasRead.{CanRead, ReadsBelow}

-- of the tokens, from where and with how many open forms it reads, and of the reader of the expressions in the form, whose
-- `requires` and `ensures` are pre and post
pub record MayRead (v : Tokens) (s : Spot) (n : ℕ) (pre : MutBor (List Tree) → Context → Spot → Type 0) (post : MutBor (List Tree) → Context → Spot → Result (Read × ℕ) Halt → MutBor (List Tree) → Type 0) : Type 0 where
  -- it begins at a token or at the end
  pub there : s.at ≤ length v.items.items
  -- no more forms may open than in any module
  pub limited : s.left ≤ deepest_in_module
  -- that reader may be called where fewer than n forms may open
  pub can : CanRead v n pre
  -- and reads an expression then
  pub reads : ReadsBelow v n post
