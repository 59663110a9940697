-- Proves what is asked of `write_definitions`.
use Rattle.std.proofs.Common.{List, ◌++◌, length, map, refl, append_assoc}
use Rattle.std.specs.Prelude.{codes}
use Rattle.tla_value.specs.declared.names.Definition.{Definition}
use Rattle.tla_value.specs.Defs.{definition_at, definitions_at}
use Rattle.module_tree.specs.Module.{definition_unit}
use Rattle.module_tree.specs.Layout.{unit_text}
use Rattle.module_lines.specs.Apart.{behind}
use Rattle.module_write.proofs.Below.{definition_below}
use Rattle.tla_write.proofs.OneMore.{listed_more}
use Rattle.module_write.proofs.write_units.write_definitions.Goals as goal

pub write_definition-requires : goal.write_definition-requires
write_definition-requires c =
    definition_below (length c.args.pool.now) c.args.definitions.now c.loop-definition.definition-index c.definition-item.result c.definition-item.is c.loop-definition-test.true c.requires

pub loop-definition-preserved : goal.loop-definition-preserved
loop-definition-preserved c =
    let ts = c.args.pool.now in
    listed_more (λ (ds : List Definition). behind 0 (map definition_unit (definitions_at ts ds))) (λ (d : Definition). codes "\n" ++ unit_text 0 (definition_unit (definition_at ts d))) (record { none = refl; more = λ x xs. refl })
    c.args.into.now c.loop-definition.into c.write_definition.new.into c.args.definitions.now c.loop-definition.definition-index c.definition-item.result c.definition-item.is c.loop-definition-test.true c.loop-definition.invariant
    (rw (c.in_ok-write_definition.ensures, c.in_ok-push.ensures.ok) (append_assoc c.loop-definition.into (codes "\n") (unit_text 0 (definition_unit (definition_at ts c.definition-item.result)))))
