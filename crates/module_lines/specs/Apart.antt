-- Units of a translation beside others, with the empty line between.
use Rattle.std.specs.Prelude.{ℕ, List, [], ◌∷◌, ◌++◌, codes}
use Rattle.module_tree.specs.Module.{RegionUnit}
use Rattle.module_tree.specs.Layout.{unit_text}

-- before others
abbrev pub ahead : ℕ → List RegionUnit → List ℕ
ahead n [] = []
ahead n (u ∷ us) = unit_text n u ++ codes "\n" ++ ahead n us

-- after others
abbrev pub behind : ℕ → List RegionUnit → List ℕ
behind n [] = []
behind n (u ∷ us) = codes "\n" ++ unit_text n u ++ behind n us
