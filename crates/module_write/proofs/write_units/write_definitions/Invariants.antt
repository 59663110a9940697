-- What the loop of `write_definitions` keeps.
use Rattle.std.proofs.Common.{◌≡◌, ◌++◌, take, map}
use Rattle.tla_value.specs.Defs.{definitions_at}
use Rattle.module_tree.specs.Module.{definition_unit}
use Rattle.module_lines.specs.Apart.{behind}
use Rattle.module_write.proofs.write_units.write_definitions.Given as goal

abbrev pub invariant-loop-definition : goal.invariant-loop-definition
invariant-loop-definition l = l.into ≡ l.fn.into ++ behind 0 (map definition_unit (definitions_at l.pool (take l.definition-index l.definitions)))
