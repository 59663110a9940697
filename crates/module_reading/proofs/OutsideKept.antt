-- What is outside a translation as modules have it: what it stands for, and as the pool grows.
use Rattle.std.proofs.Common.{◌≡◌, ℕ, List, [], ◌∷◌, length, map, refl}
use Rattle.tla_tree.specs.Tree.{Tree}
use Rattle.tla_tree.specs.Pool.{Keeps}
use Rattle.tla_value.specs.declared.names.Definition.{Definition as Kept}
use Rattle.tla_value.specs.Defs.{read_at, DefinitionsIn}
use Rattle.tla_value.proofs.DefsGrown.{definition_at-kept}
use Rattle.module_outside.specs.declared.definition.ReadDefinition.{ReadDefinition}
use Rattle.module_outside.specs.OutsideAt.{definition_seen}
use Rattle.module_write.specs.declared.«module».Outside.{Outside}
use Rattle.module_write.specs.InMemory.{opaque_of, outside_at}
use Rattle.module_outside.specs.KeptOf.{kept_of}

pub read_kept : (ts : List Tree) (ds : List ReadDefinition) → map (read_at ts) (map kept_of ds) ≡ map (definition_seen ts) ds
read_kept ts [] = refl
read_kept ts (d ∷ ds) = λ i. definition_seen ts d ∷ read_kept ts ds i

reads_kept : (ts us : List Tree) → Keeps ts us → (ds : List Kept) → DefinitionsIn (length ts) ds → map (read_at us) ds ≡ map (read_at ts) ds
reads_kept ts us k [] h = refl
reads_kept ts us k (d ∷ ds) h = λ i. record { definition = definition_at-kept ts us d k h.0 i; place = d.place } ∷ reads_kept ts us k ds h.1 i

pub outside_kept : (ts us : List Tree) → Keeps ts us → (o : Outside) → DefinitionsIn (length ts) o.definitions → outside_at us o ≡ outside_at ts o
outside_kept ts us k o h = λ i. record {
  extended = o.extended;
  constants = o.constants.items;
  definitions = reads_kept ts us k o.definitions h i;
  opaque = map opaque_of o.opaque.items;
}
