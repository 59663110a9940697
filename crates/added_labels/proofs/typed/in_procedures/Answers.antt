-- Proves that labels are met.
use Rattle.std.proofs.Common.{false, List, subst}
use Rattle.pcal_tree.specs.declared.algorithm.Stmt.{Stmt}
use Rattle.pcal_tree.specs.Algorithm.{Procedure}
use Rattle.pcal_tree.specs.InMemory.{procedure_at, statements_at}
use Rattle.pcal_tree.specs.OffencesLabels.{labels}
use Rattle.label_jumps.specs.Meeting.{Meets}
use Rattle.added_labels.proofs.TypedLaws.{none_met, next_met, all_found}
use Rattle.added_labels.proofs.typed.in_procedures.Goals as goal

pub loop-i-init : goal.loop-i-init
loop-i-init c = λ ts. none_met (procedure_at ts) (λ (x : Procedure). x.body) c.args.met.now

pub loop-i-preserved : goal.loop-i-preserved
loop-i-preserved c = λ ts.
    next_met (procedure_at ts) (λ (x : Procedure). x.body) c.args.met.now c.loop-i.met c.body.new.self c.args.list.now c.loop-i.i c.index-list-i.result c.index-list-i.is c.loop-i-test.true (c.loop-i.invariant ts)
    (subst (λ (ss : List Stmt). Meets c.loop-i.met c.body.new.self (labels false (statements_at ts ss))) c.deref.ensures.value (c.in_ok-body.ensures ts))

pub returns : goal.returns
returns c = λ ts. all_found (procedure_at ts) (λ (x : Procedure). x.body) c.args.met.now c.loop-i.met c.args.list.now c.loop-i.i c.loop-i-test.false (c.loop-i.invariant ts)
