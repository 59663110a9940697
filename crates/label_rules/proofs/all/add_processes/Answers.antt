-- Proves that all that processes offend is found.
use Rattle.std.proofs.Common.{◌++◌, false, List, ap, ◌∙◌, arith}
use Rattle.tla_tree.proofs.PoolNumbers.{past_at}
use Rattle.pcal_tree.specs.declared.algorithm.Stmt.{Stmt}
use Rattle.pcal_tree.specs.declared.algorithm.Process.{Process}
use Rattle.pcal_tree.specs.Algorithm as tree
use Rattle.pcal_tree.specs.InMemory.{statements_at, process_at, past_statements, past_process}
use Rattle.pcal_tree.specs.OffencesLabels.{misplaced}
use Rattle.pcal_tree.specs.OffencesSteps.{missing_in_body}
use Rattle.label_steps.specs.AroundIn.{effects_around}
use Rattle.label_rules.proofs.AddedLaws.{added_more, added_mapped}
use Rattle.label_rules.proofs.all.add_processes.Goals as goal

pub add_body-requires-clause-inside : goal.add_body-requires-clause-inside
add_body-requires-clause-inside c =
    let less = past_at past_process c.args.list.now c.loop-one.one-index c.one-item.result c.one-item.is c.loop-one-test.true in omega (arith, less, ap past_statements c.deref.ensures.value, c.requires.inside)

pub loop-one-preserved : goal.loop-one-preserved
loop-one-preserved c = λ ms k.
    let ts = c.args.pool.now in
    let E = effects_around c.args.place.now.around ms in
    added_more (λ (d : Process). missing_in_body (effects_around c.args.place.now.around ms) (statements_at ts d.body.items) ++ misplaced false false (statements_at ts d.body.items)) c.args.list.now c.loop-one.found.items
    c.add_body.new.found.items c.loop-one.one-index c.one-item.result c.one-item.is c.loop-one-test.true
    (c.in_ok-add_body.ensures ms k ∙ ap (λ (ys : List Stmt). c.loop-one.found.items ++ (missing_in_body E (statements_at ts ys) ++ misplaced false false (statements_at ts ys))) c.deref.ensures.value)
    ∙ c.loop-one.invariant ms k

pub returns : goal.returns
returns c = λ ms k.
    added_mapped (λ (d : tree.Process). missing_in_body (effects_around c.args.place.now.around ms) d.body ++ misplaced false false d.body) (process_at c.args.pool.now) c.args.list.now c.loop-one.one-index c.args.found.now.items
    c.loop-one.found.items c.loop-one-test.false (c.loop-one.invariant ms k)
