-- Proves that a definition is measured with its parameters bound.
use Rattle.std.proofs.Common.{List, sym, subst}
use Rattle.tla_tree.specs.Tree.{Word}
use Rattle.tla_value.specs.DefinitionNesting.{hidden}
use Rattle.algorithm_limits.specs.DepthsIn.{AreDepths, Hides}
use Rattle.algorithm_limits.proofs.NestLaws.{depths_hidden}
use Rattle.region_depth.proofs.definitions.definition_nests.Goals as goal

pub returns-clause-depth : goal.returns-clause-depth
returns-clause-depth c = λ ds a.
    c.in_ok-depth.ensures.depth (hidden c.args.definition.now.params ds)
    (depths_hidden 1201 c.args.depths.now c.args.bound.now c.bind.new.bound c.args.definition.now.params ds
    (subst (λ (ns : List Word). Hides c.args.bound.now c.bind.new.bound ns) c.as_slice.ensures c.in_ok-bind.ensures)
    (subst (λ (b : List Word). AreDepths 1201 c.args.depths.now b ds) (sym c.requires.none) a))
