-- Definitions shown on small values: the argument that is put in for a name.
use Rattle.std.proofs.Common.{◌≡◌, [], ◌∷◌, Some, None, true, codes, refl}
use Rattle.tla_token.specs.declared.place.Place.{Place}
use Rattle.tla_tree.specs.Tree.{Name}
use Rattle.pcal_tree.specs.OffencesRebind.{naming, in_scope}
use Rattle.declared_rules.specs.Keeping.{argument_of}

abbrev there : Place
there = record { line = 1; col = 1 }

abbrev x : Name
x = record { word = codes "x"; place = there }

abbrev y : Name
y = record { word = codes "y"; place = there }

-- a call with one argument for two parameters
first_argument : argument_of (x ∷ y ∷ []) ([] ∷ []) (codes "x") ≡ Some []
first_argument = refl

no_argument : argument_of (x ∷ y ∷ []) ([] ∷ []) (codes "y") ≡ None
no_argument = refl

bound_again : in_scope (naming (codes "x" ∷ []) []) (codes "x") ≡ true
bound_again = refl
