-- How far code has come in a text.
use Rattle.std.specs.Prelude.{◌≡◌, ℕ, ◌≤◌, Bool, false, [], ◌∷◌, length, drop, Option, Some, None}
use Rattle.module_tree.specs.TextFront.{Text, begins}

-- after so many bytes of a text is this
abbrev pub IsPast : Option ℕ → Text → Option Text → Type 0
IsPast None s o = o ≡ None
IsPast (Some n) s o = (n ≤ length s) × (o ≡ Some (drop n s))

-- whatever is so begins with this byte
abbrev pub Needs : ℕ → (Text → Bool) → Type 0
Needs b p = (s : Text) → begins s (b ∷ []) ≡ false → p s ≡ false
