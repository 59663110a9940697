-- Proves that a definition is measured with its parameters bound.
use Rattle.std.proofs.Common.{List, sym, subst}
use Rattle.tla_tree.specs.Tree.{Name, Word, words}
use Rattle.tla_value.specs.DefinitionNesting.{hidden}
use Rattle.algorithm_limits.specs.DepthsIn.{AreDepths, Hides}
use Rattle.algorithm_limits.proofs.NestLaws.{depths_hidden}
use Rattle.algorithm_limits.proofs.nesting.definition_nests.Goals as goal

pub returns-clause-depth : goal.returns-clause-depth
returns-clause-depth c = λ ds a.
    c.in_ok-depth.ensures.depth (hidden (words c.args.definition.now.params.items) ds)
    (depths_hidden 501 c.args.depths.now c.args.bound.now c.add_all.new.self (words c.args.definition.now.params.items) ds
    (subst (λ (ns : List Name). Hides c.args.bound.now c.add_all.new.self (words ns)) c.deref.ensures.value c.in_ok-add_all.ensures)
    (subst (λ (b : List Word). AreDepths 501 c.args.depths.now b ds) (sym c.requires.none) a))
