-- Proves that a definition that nests too deep is found.
use Rattle.std.proofs.Common.{◌≡◌, ◌+◌, min, [], drop, get_or, sym, ap, ◌∙◌, subst, arith}
use Rattle.tla_tree.specs.Tree.{Word}
use Rattle.tla_value.specs.DefinitionNesting.{Depths, definition_nests}
use Rattle.pcal_tree.specs.declared.algorithm.Definition.{Definition}
use Rattle.pcal_tree.specs.InMemory.{definition_at, definitions_at, past_definition}
use Rattle.pcal_tree.specs.Program.{inner}
use Rattle.algorithm_limits.specs.Numbers.{with_number}
use Rattle.algorithm_limits.specs.DepthsIn.{AreDepths}
use Rattle.tla_tree.proofs.PoolNumbers.{past_at}
use Rattle.algorithm_limits.proofs.DeepFound.{deep_as, deep_more}
use Rattle.algorithm_limits.proofs.nesting.deep_definition.Goals as goal

pub definition_nests-requires-clause-there : goal.definition_nests-requires-clause-there
definition_nests-requires-clause-there c =
    let past = past_at past_definition c.args.definitions.now c.loop-definition.definition-index c.definition-item.result c.definition-item.is c.loop-definition-test.true in omega (arith, past, c.requires)

pub loop-definition-preserved : goal.loop-definition-preserved
loop-definition-preserved c =
    let is = subst (λ (m : Definition). m ≡ get_or c.args.definitions.now c.loop-definition.definition-index m) (sym c.definition.view_is) c.definition-item.is in
    let depth = subst (λ (m : Definition). (ds : Depths) → AreDepths 501 c.loop-definition.depths [] ds → c.in_ok-depth.depth ≡ min 501 (definition_nests ds (inner (definition_at c.args.pool.now m)))) (sym c.definition.view_is) c.in_ok-depth.ensures.depth in (
      c.in_ok-depth.ensures.kept,
      deep_as _ c.set.new.self _ c.or_offence-found.result (definitions_at c.args.pool.now c.args.definitions.now) (definitions_at c.args.pool.now (drop (c.loop-definition.definition-index + 1) c.args.definitions.now))
          (c.in_ok-set.ensures ∙ ap (λ (x : Word). with_number c.loop-definition.depths x (c.in_ok-depth.depth + 1)) c.in_ok-copied.ensures) c.or_offence-found.ensures
          (deep_more c.args.pool.now c.args.definitions.now c.loop-definition.depths c.loop-definition.found c.loop-definition.definition-index _ c.in_ok-depth.depth is c.loop-definition-test.true depth c.loop-definition.invariant.1),
    )
