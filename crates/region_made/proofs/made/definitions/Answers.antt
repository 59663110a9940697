-- Proves that the definitions that follow one another are taken.
use Rattle.region_made.specs.Parts.{ahead}
use Rattle.region_made.proofs.Rows.{definition_more, definitions_all}
use Rattle.region_made.proofs.made.definitions.Goals as goal

pub loop-definition-preserved : goal.loop-definition-preserved
loop-definition-preserved c =
    definition_more c.loop-definition.definitions c.push.new.self c.in-Ok.definition (ahead c.args.first c.args.units.now) c.loop-definition.units (ahead c.next_unit-next.result c.next_unit-next.new.units) c.loop-definition.next c.in-Ok.ensures c.in_ok-push-in-Ok.ensures.ok c.next_unit-next.ensures
    c.loop-definition.invariant

pub returns-in-Err : goal.returns-in-Err
returns-in-Err c = definitions_all c.loop-definition.definitions (ahead c.args.first c.args.units.now) c.loop-definition.units c.in-Err.other c.loop-definition.next c.in-Err.ensures c.loop-definition.invariant
