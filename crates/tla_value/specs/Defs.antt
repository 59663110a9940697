-- Definitions in memory, whose bodies are numbers of a pool, and the definitions that they stand for.
use Rattle.std.specs.Prelude.{◌≡◌, ℕ, ◌<◌, List, [], ◌∷◌, map, Option, Some, None, slice_get}
use Rattle.std.specs.Coded.{Coded, codes}
use Rattle.std.specs.Option.{option_map}
use Rattle.tla_tree.specs.Tree.{Word, Tree}
use Rattle.tla_tree.specs.Pool.{at}
use Rattle.tla_value.specs.declared.names.Definition.{Definition as Kept}
use Rattle.tla_value.specs.Definitions.{Definition}
use Rattle.tla_value.specs.Outside.{ReadDefinition}

pub kept_code : Coded Kept
kept_code = hlevel codes

-- what it stands for, where the pool has these trees
abbrev pub definition_at : List Tree → Kept → Definition
definition_at ts d = record { title = d.name; params = d.params; body = at ts d.body; outside = d.outside }

abbrev pub definitions_at : List Tree → List Kept → List Definition
definitions_at ts ds = map (definition_at ts) ds

-- as it was read of a module, with the place of its name
abbrev pub read_at : List Tree → Kept → ReadDefinition
read_at ts d = record { definition = definition_at ts d; place = d.place }

-- their numbers are below m
abbrev pub DefinitionsIn : ℕ → List Kept → Type 0
DefinitionsIn m [] = Unit {0}
DefinitionsIn m (d ∷ ds) = (d.body < m) × DefinitionsIn m ds

abbrev pub HasName : List Kept → Word → ℕ → Type 0
HasName ds x i = option_map (λ (d : Kept). d.name) (slice_get ds i) ≡ Some x

-- which of the first n definitions is the last of that name
abbrev pub IsLatest : Word → List Kept → ℕ → Option ℕ → Type 0
IsLatest x ds n None = (i : ℕ) → i < n → HasName ds x i → ⊥
IsLatest x ds n (Some k) = (k < n) × HasName ds x k × ((i : ℕ) → k < i → i < n → HasName ds x i → ⊥)
