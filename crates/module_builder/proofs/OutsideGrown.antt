-- What stands outside an algorithm, as the pool grows that its definitions are numbers of.
use Rattle.std.proofs.Common.{◌≡◌, List, [], ◌∷◌, length, map, refl}
use Rattle.tla_tree.specs.Tree.{Tree}
use Rattle.tla_tree.specs.Pool.{Keeps}
use Rattle.tla_value.specs.declared.names.Definition.{Definition as Kept}
use Rattle.tla_value.specs.Defs.{read_at, DefinitionsIn}
use Rattle.tla_value.proofs.DefsGrown.{definition_at-kept}
use Rattle.module_write.specs.declared.«module».Outside.{Outside}
use Rattle.module_write.specs.InMemory.{opaque_of, outside_at}

reads_kept : (ts us : List Tree) → Keeps ts us → (ds : List Kept) → DefinitionsIn (length ts) ds → map (read_at us) ds ≡ map (read_at ts) ds
reads_kept ts us k [] h = refl
reads_kept ts us k (d ∷ ds) h = λ j. record { definition = definition_at-kept ts us d k h.0 j; place = d.place } ∷ reads_kept ts us k ds h.1 j

pub outside_kept : (ts us : List Tree) → Keeps ts us → (o : Outside) → DefinitionsIn (length ts) o.definitions → outside_at us o ≡ outside_at ts o
outside_kept ts us k o h = λ j. record {
  extended = o.extended;
  constants = o.constants.items;
  definitions = reads_kept ts us k o.definitions h j;
  opaque = map opaque_of o.opaque.items;
}
