-- Proves that definitions, their parameters and the names of their bodies are looked at.
use Rattle.std.proofs.Common.{ap}
use Rattle.std.proofs.Common.{List, [], ◌∷◌}
use Rattle.tla_tree.specs.Tree.{Name}
use Rattle.declared_rules.specs.Parts.{bound, takes}
use Rattle.declared_rules.specs.Parts.{definition_parts}
use Rattle.declared_rules.proofs.WalkLaws.{adds_as, adds_then, adds_more, adds_all}
use Rattle.declared_rules.proofs.walk.Walked.definitions.Goals as goal

pub loop-definition-preserved : goal.loop-definition-preserved
loop-definition-preserved c = λ ts.
    adds_more ts (definition_parts ts) c.args.list.now c.args.self.now c.loop-definition.self c.expr.new.self c.loop-definition.definition-index c.definition-item.result c.definition-item.is c.loop-definition-test.true (c.loop-definition.invariant ts)
    (adds_then ts c.loop-definition.self c.keeps.new.self c.expr.new.self _ _ (c.in_ok-keeps.ensures ts)
    (adds_then ts c.keeps.new.self c.params.new.self c.expr.new.self _ _
    (adds_as ts c.keeps.new.self c.params.new.self _ _ (ap (λ (ns : List Name). bound ns ∷ takes ns ∷ []) c.deref.ensures.value) (c.in_ok-params.ensures ts)) (c.expr.ensures ts)))

pub returns : goal.returns
returns c = λ ts. adds_all ts (definition_parts ts) c.args.list.now c.args.self.now c.loop-definition.self c.loop-definition.definition-index c.loop-definition-test.false (c.loop-definition.invariant ts)
