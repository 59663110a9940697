-- Proves that definitions are looked at one after another.
use Rattle.std.proofs.Common.{◌+◌, length, drop, ap, ◌∙◌}
use Rattle.tla_tree.specs.Tree.{Word}
use Rattle.tla_value.specs.Defs.{definitions_at}
use Rattle.algorithm_limits.specs.Numbers.{with_number}
use Rattle.region_depth.proofs.DeepRow.{room_as, body_in, definition_fits, definition_too_deep}
use Rattle.region_depth.proofs.definitions.definitions_fit.Goals as goal

pub definition_nests-requires-clause-there : goal.definition_nests-requires-clause-there
definition_nests-requires-clause-there c = body_in (length c.args.pool.now) c.args.definitions.now c.loop-definition.definition-index c.definition-item.result c.requires c.definition-item.is c.loop-definition-test.true

pub returns-then-depth-gt-DEEPEST : goal.returns-then-depth-gt-DEEPEST
returns-then-depth-gt-DEEPEST c =
    definition_too_deep c.args.pool.now c.args.definitions.now c.loop-definition.depths c.loop-definition.definition-index c.definition-item.result c.in_ok-depth.depth c.definition-item.is c.loop-definition-test.true c.in_ok-depth.ensures.depth c.loop-definition.invariant.1
    c.if-depth-gt-DEEPEST.true

pub loop-definition-preserved : goal.loop-definition-preserved
loop-definition-preserved c =
    let ts = c.args.pool.now in
    let ms = c.args.definitions.now in
    let i = c.loop-definition.definition-index in
    let m = c.definition-item.result in
    let n = c.in_ok-depth.depth in (
      c.in_ok-depth.ensures.kept,
      room_as (with_number c.loop-definition.depths m.name (n + 1)) c.set.new.self (definitions_at ts ms) (definitions_at ts (drop (i + 1) ms)) (c.in_ok-set.ensures ∙ ap (λ (x : Word). with_number c.loop-definition.depths x (n + 1)) c.in_ok-copied.ensures)
          (definition_fits ts ms c.loop-definition.depths i m n c.definition-item.is c.loop-definition-test.true c.in_ok-depth.ensures.depth c.loop-definition.invariant.1 c.if-depth-gt-DEEPEST.false),
    )
