-- Proves that the labels of one procedure more are listed.
use Rattle.std.proofs.Common.{◌++◌, List, map, refl, ap, ◌∙◌}
use Rattle.pcal_tree.specs.declared.algorithm.Stmt.{Stmt}
use Rattle.pcal_tree.specs.Algorithm.{numbered, procedure_routine}
use Rattle.pcal_tree.specs.InMemory.{statements_at, procedure_at}
use Rattle.written_names.specs.Units.{naming_of}
use Rattle.marked_labels.specs.declared.labels.Wanted.TheVariants.{All}
use Rattle.marked_labels.specs.Wanted.{labels_of}
use Rattle.fairness_lines.specs.LinesOf.{every_in}
use Rattle.fairness_lines.proofs.AskedLaws.{numbered_more, numbered_none}
use Rattle.fairness_lines.proofs.obligations.add_procedures.Goals as goal

pub loop-procedure-preserved : goal.loop-procedure-preserved
loop-procedure-preserved c = λ ts.
    let f = naming_of c.args.draft.now.naming.now in
    numbered_more (λ n ps. every_in f (numbered procedure_routine n (map (procedure_at ts) ps))) (λ n p. labels_of f n All (statements_at ts p.body.items)) (λ n p ps. refl) (λ n. refl)
    c.args.list.now c.loop-procedure.procedure-index c.loop-procedure.unit c.in_ok-unit.unit c.procedure-item.result c.procedure-item.is c.loop-procedure-test.true c.in_ok-unit.ensures
    c.loop-procedure.into c.statements.new.into _
    (c.in_ok-statements.ensures ts ∙ ap (λ (ss : List Stmt). c.loop-procedure.into ++ labels_of f c.loop-procedure.unit All (statements_at ts ss)) c.deref.ensures.value)
    (c.loop-procedure.invariant ts)

pub returns : goal.returns
returns c = λ ts.
    let f = naming_of c.args.draft.now.naming.now in
    numbered_none (λ n ps. every_in f (numbered procedure_routine n (map (procedure_at ts) ps))) (λ n p. labels_of f n All (statements_at ts p.body.items)) (λ n p ps. refl) (λ n. refl)
    c.args.list.now c.loop-procedure.procedure-index c.loop-procedure.unit c.loop-procedure.into _ c.loop-procedure-test.false (c.loop-procedure.invariant ts)
