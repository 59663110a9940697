-- Names that no definition has.
use Rattle.std.specs.Prelude.{◌≡◌, List, [], ◌∷◌, false, bytes_eq}
use Rattle.tla_tree.specs.Tree.{Word}
use Rattle.tla_value.specs.Definitions.{Definition}

-- none of the definitions has the name x
abbrev pub Untitled : Word → List Definition → Type 0
Untitled x [] = Unit {0}
Untitled x (d ∷ ds) = (bytes_eq d.title x ≡ false) × Untitled x ds
