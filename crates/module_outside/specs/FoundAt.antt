-- What is found in units, in memory.
use Rattle.std.specs.Prelude.{◌≡◌, ℕ, ◌<◌, true, false, List, [], ◌∷◌, ◌++◌, map}
use Rattle.std.specs.List.{flat_map}
use Rattle.tla_tree.specs.Tree.{Tree}
use Rattle.tla_tree.specs.Lexical.{Token}
use Rattle.module_tree.specs.Module.{OutsideUnit, definitions_of, unread_of}
use Rattle.module_tree.specs.Outside.{Sight}
use Rattle.outside_reading.specs.PlainUnits.{units_in}
use Rattle.module_outside.specs.declared.passed.Passed.{Passed}
use Rattle.module_outside.specs.Passing.{passed_seen}
use Rattle.module_outside.specs.declared.definition.ReadDefinition.{ReadDefinition}
use Rattle.module_outside.specs.declared.found.Found.{Found}
use Rattle.module_outside.specs.OutsideAt.{definition_seen}

-- the bodies are numbers of a pool of so many
abbrev pub AreHeld : ℕ → List ReadDefinition → Type 0
AreHeld n [] = Unit {0}
AreHeld n (d ∷ ds) = (d.body < n) × AreHeld n ds

-- what is kept of one more unit
abbrev pub PassesOn : List Passed → List Passed → OutsideUnit → Type 0
PassesOn old new u = map passed_seen new ≡ map passed_seen old ++ unread_of u

-- what is found in one more unit, as the pool grows
pub record Goes (old new : List Tree) (before after : Found) (u : OutsideUnit) : Type 0 where
  pub definitions : map (definition_seen new) after.definitions.items ≡ map (definition_seen old) before.definitions.items ++ definitions_of u
  pub opaque : PassesOn before.opaque.items after.opaque.items u

-- these are the definitions and the units that are passed on
pub record IsFound (ts : List Tree) (f : Found) (us : List OutsideUnit) : Type 0 where
  pub definitions : map (definition_seen ts) f.definitions.items ≡ flat_map definitions_of us
  pub opaque : map passed_seen f.opaque.items ≡ flat_map unread_of us

-- these are the definitions in front, and the units in front and behind that are passed on, where this is in sight
pub record IsAll (ts : List Tree) (f : Found) (v : Sight) (front back : List (List Token)) : Type 0 where
  pub definitions : map (definition_seen ts) f.definitions.items ≡ flat_map definitions_of (units_in true v front)
  pub opaque : map passed_seen f.opaque.items ≡ flat_map unread_of (units_in true v front) ++ flat_map unread_of (units_in false v back)
