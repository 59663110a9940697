-- Proves that all that is misplaced in them is found.
use Rattle.std.proofs.Common.{◌++◌, true, false, List, ap, ◌∙◌}
use Rattle.pcal_tree.specs.declared.algorithm.Stmt.{Stmt}
use Rattle.pcal_tree.specs.declared.algorithm.Macro.{Macro}
use Rattle.pcal_tree.specs.Algorithm as tree
use Rattle.pcal_tree.specs.InMemory.{statements_at, macro_at}
use Rattle.pcal_tree.specs.OffencesLabels.{misplaced}
use Rattle.label_rules.proofs.AddedLaws.{added_more, added_mapped}
use Rattle.label_rules.proofs.bodies.of_macros.Goals as goal

pub loop-one-preserved : goal.loop-one-preserved
loop-one-preserved c = λ ts.
    added_more (λ (d : Macro). misplaced true false (statements_at ts d.body.items)) c.args.list.now c.loop-one.found.items _ c.loop-one.one-index c.one-item.result c.one-item.is c.loop-one-test.true
    (c.in_ok-of_body.ensures ts ∙ ap (λ (ys : List Stmt). c.loop-one.found.items ++ misplaced true false (statements_at ts ys)) c.deref.ensures.value)
    ∙ c.loop-one.invariant ts

pub returns : goal.returns
returns c = λ ts. added_mapped (λ (d : tree.Macro). misplaced true false d.body) (macro_at ts) c.args.list.now c.loop-one.one-index c.args.found.now.items c.loop-one.found.items c.loop-one-test.false (c.loop-one.invariant ts)
