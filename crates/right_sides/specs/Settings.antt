-- The settings of variables whose assignments are grouped.
use Rattle.std.specs.Prelude.{◌≡◌, true, List, [], ◌∷◌, map}
use Rattle.tla_token.specs.Signs.{is_among}
use Rattle.tla_token.specs.declared.place.Place.{Place}
use Rattle.tla_tree.specs.Tree.{Word, name, Tree, node, Trees}
use Rattle.module_tree.specs.Module.{setting, Items, no_items, item}
use Rattle.pcal_tree.specs.Algorithm.{Assignments, no_assignments, assignment}
use Rattle.action_builder.specs.Assigned.{Names}
use Rattle.action_builder.specs.Written.{primed, side_of}
use Rattle.right_sides.specs.Groups.{Group}
use Rattle.right_sides.specs.Parts.{IsPlain}

abbrev pub settings_in : Names → List (Word × Assignments) → Items
settings_in A [] = no_items
settings_in A (p ∷ ps) = item (setting p.0 (primed A (side_of p.0 p.1))) (settings_in A ps)

abbrev pub ArePlain : List (Word × Assignments) → Type 0
ArePlain [] = Unit {0}
ArePlain (p ∷ ps) = IsPlain p.1 × ArePlain ps

-- their variables
abbrev pub names_of : List Group → List Word
names_of gs = map (λ (g : Group). g.0) gs

-- each is of the order
abbrev pub AreKnown : List Word → List Word → Type 0
AreKnown order xs = (x : Word) → is_among xs x ≡ true → is_among order x ≡ true

-- they are one alone, of e to the whole variable x
abbrev pub IsWhole : Word → Tree → Assignments → Type 0
IsWhole x e ms = (p : Place) × (ts : Trees) × (ms ≡ assignment (node (name x) p ts) e no_assignments)
