-- What a module has outside its algorithm and the translation: what is read of it, and what is kept of units that are passed on unread
-- ("Specifying Systems", chapter 17).
use Rattle.std.specs.Prelude.{List, map}
use Rattle.tla_token.specs.declared.place.Place.{Place}
use Rattle.tla_tree.specs.Tree.{Word, Name}
use Rattle.tla_value.specs.Definitions.{Definition}

-- a unit that was passed on unread
pub record Opaque : Type 0 where
  pub keyword : Word  -- none for a definition
  pub names : List Word
  pub place : Place

-- a definition that was read, and the place of its name
pub record ReadDefinition : Type 0 where
  pub definition : Definition
  pub place : Place

-- as an expression finds them
abbrev pub found : List ReadDefinition → List Definition
found ds = map (λ d. d.definition) ds

-- its units, each kind in the order of the text
pub record Outside : Type 0 where
  pub extended : List Word
  pub constants : List Name
  pub definitions : List ReadDefinition
  pub opaque : List Opaque
