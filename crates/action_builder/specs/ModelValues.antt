-- The model value of variables that are declared without an initial value ("A PlusCal User's Manual", section 4, on defaultInitValue).
use Rattle.std.specs.Prelude.{List, [], ◌∷◌, Bool, true, false, cond, codes}
use Rattle.std.specs.List.{list_any}
use Rattle.tla_tree.specs.Tree.{Word}
use Rattle.pcal_tree.specs.Algorithm.{Start, unset, Algorithm}
use Rattle.pcal_tree.specs.Expressions.{all_declarations}

abbrev pub is_unset : Start → Bool
is_unset unset = true
is_unset _ = false

-- the names of CONSTANT: defaultInitValue, where some variable or parameter has no initial value
abbrev pub model_values : Algorithm → List Word
model_values a = cond (list_any (λ d. is_unset d.start) (all_declarations a)) (codes "defaultInitValue" ∷ []) []
