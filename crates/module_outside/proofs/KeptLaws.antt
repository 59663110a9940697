-- Definitions that were read outside, as expressions use them, are of the pool that they were read into.
use Rattle.std.proofs.Common.{ℕ, List, [], ◌∷◌, map}
use Rattle.tla_value.specs.Defs.{DefinitionsIn}
use Rattle.module_outside.specs.declared.definition.ReadDefinition.{ReadDefinition}
use Rattle.module_outside.specs.FoundAt.{AreHeld}
use Rattle.module_outside.specs.KeptOf.{kept_of}

pub held_kept : (m : ℕ) (ds : List ReadDefinition) → AreHeld m ds → DefinitionsIn m (map kept_of ds)
held_kept m [] h = tt
held_kept m (d ∷ ds) h = (h.0, held_kept m ds h.1)
