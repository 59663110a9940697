-- Lists of forms behind bullets, in memory, and the column of their bullets.
use Rattle.std.specs.Prelude.{ℕ, List, [], ◌∷◌}
use Rattle.tla_token.specs.declared.place.Place.{Place}
use Rattle.tla_tree.specs.declared.op.Op.{Op}
use Rattle.tla_tree.specs.Reader.{Reader, gives, next, is_sign}
use Rattle.region_reading.specs.Bound.{Bound, opened_if}

-- one for each form, of which this is told
abbrev pub AreAll : {X A : Type 0} → (X → A → Type 0) → List X → List (Place × A) → Type 0
AreAll P [] [] = Unit {0}
AreAll P (x ∷ xs) (f ∷ fs) = P x f.1 × AreAll P xs fs
AreAll P xs fs = ⊥

-- where a list behind this sign begins, right of column 1: the column of its bullets
abbrev pub column_in : Bound → Op → Reader ℕ
column_in m o ts = opened_if (is_sign o (next 1 ts).kind) m (λ n. gives (next 1 ts).place.col) ts
