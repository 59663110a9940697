-- A definition outside the algorithm as expressions use it, its body a number of the same pool.
use Rattle.std.specs.Prelude.{true}
use Rattle.tla_tree.specs.Tree.{words}
use Rattle.tla_value.specs.declared.names.Definition.{Definition as Kept}
use Rattle.module_outside.specs.declared.definition.ReadDefinition.{ReadDefinition}

abbrev pub kept_of : ReadDefinition → Kept
kept_of d = record { name = d.title.word; params = words d.params.items; body = d.body; outside = true; place = d.title.place }
