-- What a module has outside, in memory: the pure one over the trees of a pool.
use Rattle.std.specs.Prelude.{List, map}
use Rattle.tla_tree.specs.Tree.{Tree, words}
use Rattle.tla_value.specs.Outside as pure
use Rattle.module_outside.specs.Passing.{passed_seen}
use Rattle.module_outside.specs.declared.outside.Outside.{Outside}
use Rattle.module_outside.specs.OutsideAt.{definition_seen}

abbrev pub outside_at : List Tree → Outside → pure.Outside
outside_at ts o = record {
  extended = words o.extended.items;
  constants = o.constants.items;
  definitions = map (definition_seen ts) o.definitions.items;
  opaque = map passed_seen o.opaque.items;
}
