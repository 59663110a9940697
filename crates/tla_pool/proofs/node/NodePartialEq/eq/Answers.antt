-- Proves what is asked of `eq`.
use Rattle.std.specs.Prelude.{◌≡◌, Bool, true, false, IsTrue, ◌↔◌, refl}
use Rattle.std.specs.Bool.{Decides}
use Rattle.std.proofs.Common.{sym}
use Rattle.tla_tree.specs.PoolEquality.{same_entry-Decides}
use Rattle.tla_pool.proofs.node.NodePartialEq.eq.Goals as goal

-- two tests of one thing
told : {P : Type 0} (r e : Bool) → (IsTrue r ↔ P) → Decides e P → r ≡ e
told true e h d = sym (d.1 (h.0 refl))
told false true h d = h.1 (d.0 refl)
told false false h d = refl

pub returns : goal.returns
returns c = told _ _ c.is.ensures (same_entry-Decides _ _)
