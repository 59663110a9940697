-- Whether a list has no member, and what is there only where something holds.
use Rattle.std.specs.Prelude.{Bool, true, false, List, [], ◌∷◌, Option, None}

abbrev pub is_empty : {X : Type 0} → List X → Bool
is_empty [] = true
is_empty (x ∷ xs) = false

abbrev pub only_if : {X : Type 0} → Bool → Option X → Option X
only_if true o = o
only_if false o = None
