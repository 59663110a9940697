-- Proves that parameters of macros and the names of their bodies are looked at.
use Rattle.std.proofs.Common.{ap}
use Rattle.std.proofs.Common.{List, [], ◌∷◌}
use Rattle.tla_tree.specs.Tree.{Name}
use Rattle.declared_rules.specs.Parts.{bound, takes}
use Rattle.declared_rules.specs.Parts.{body_parts, macro_parts}
use Rattle.declared_rules.proofs.WalkLaws.{adds_as, adds_then, adds_more, adds_all}
use Rattle.declared_rules.proofs.walk.Walked.macros.Goals as goal

pub loop-one-preserved : goal.loop-one-preserved
loop-one-preserved c = λ ts.
    adds_more ts (macro_parts ts) c.args.list.now c.args.self.now c.loop-one.self c.body.new.self c.loop-one.one-index c.one-item.result c.one-item.is c.loop-one-test.true (c.loop-one.invariant ts)
    (adds_then ts c.loop-one.self c.declares.new.self c.body.new.self _ _ (c.declares.ensures ts)
    (adds_then ts c.declares.new.self c.params.new.self c.body.new.self _ _
    (adds_as ts c.declares.new.self c.params.new.self _ _ (ap (λ (ns : List Name). bound ns ∷ takes ns ∷ []) c.deref.ensures.value) (c.in_ok-params.ensures ts))
    (adds_as ts c.params.new.self c.body.new.self _ _ (ap (body_parts ts) c.deref-in-loop-one.ensures.value) (c.in_ok-body.ensures ts))))

pub returns : goal.returns
returns c = λ ts. adds_all ts (macro_parts ts) c.args.list.now c.args.self.now c.loop-one.self c.loop-one.one-index c.loop-one-test.false (c.loop-one.invariant ts)
