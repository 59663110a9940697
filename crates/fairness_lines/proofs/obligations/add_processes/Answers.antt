-- Proves that the labels of one process more are listed.
use Rattle.std.proofs.Common.{◌++◌, List, map, refl, ap, ◌∙◌}
use Rattle.pcal_tree.specs.declared.algorithm.Stmt.{Stmt}
use Rattle.pcal_tree.specs.Algorithm.{numbered, process_routine}
use Rattle.pcal_tree.specs.InMemory.{statements_at, process_at}
use Rattle.written_names.specs.Units.{naming_of}
use Rattle.marked_labels.specs.declared.labels.Wanted.TheVariants.{All}
use Rattle.marked_labels.specs.Wanted.{labels_of}
use Rattle.fairness_lines.specs.LinesOf.{every_in}
use Rattle.fairness_lines.proofs.AskedLaws.{numbered_more, numbered_none}
use Rattle.fairness_lines.proofs.obligations.add_processes.Goals as goal

pub loop-process-preserved : goal.loop-process-preserved
loop-process-preserved c = λ ts.
    let f = naming_of c.args.draft.now.naming.now in
    numbered_more (λ n ps. every_in f (numbered process_routine n (map (process_at ts) ps))) (λ n p. labels_of f n All (statements_at ts p.body.items)) (λ n p ps. refl) (λ n. refl)
    c.args.list.now c.loop-process.process-index c.loop-process.unit c.in_ok-unit.unit c.process-item.result c.process-item.is c.loop-process-test.true c.in_ok-unit.ensures
    c.loop-process.into c.statements.new.into _
    (c.in_ok-statements.ensures ts ∙ ap (λ (ss : List Stmt). c.loop-process.into ++ labels_of f c.loop-process.unit All (statements_at ts ss)) c.deref.ensures.value)
    (c.loop-process.invariant ts)

pub returns : goal.returns
returns c = λ ts.
    let f = naming_of c.args.draft.now.naming.now in
    numbered_none (λ n ps. every_in f (numbered process_routine n (map (process_at ts) ps))) (λ n p. labels_of f n All (statements_at ts p.body.items)) (λ n p ps. refl) (λ n. refl)
    c.args.list.now c.loop-process.process-index c.loop-process.unit c.loop-process.into _ c.loop-process-test.false (c.loop-process.invariant ts)
