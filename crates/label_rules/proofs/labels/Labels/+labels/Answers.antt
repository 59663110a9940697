-- Proves that the labels of statements are met.
use Rattle.std.proofs.Common.{false, List, Vec, Global, sym, ap, subst, arith}
use Rattle.tla_tree.proofs.PoolNumbers.{past_at}
use Rattle.pcal_tree.specs.declared.algorithm.Stmt.{Stmt}
use Rattle.pcal_tree.specs.InMemory.{statements_at, branches_at}
use Rattle.pcal_tree.specs.OffencesLabels.{labels, labels_of_some}
use Rattle.pcal_tree.proofs.StatementHeights.{height, heights, branch_heights, either_height}
use Rattle.label_rules.specs.Meeting.{MeetsStmt}
use Rattle.label_rules.proofs.MeetLaws.{met_as, if_met, either_met, with_met, while_met, body_met, body_done, branches_met, branches_done}
use Rattle.label_rules.proofs.labels.Labels.+labels.Goals as goal

pub body-stmt-requires : goal.body-stmt-requires
body-stmt-requires t c =
    let less = past_at height c.args.stmts.now c.loop-stmt.stmt-index c.stmt-item.result c.stmt-item.is c.loop-stmt-test.true in omega (arith, less, c.decreases)

pub body-loop-stmt-preserved : goal.body-loop-stmt-preserved
body-loop-stmt-preserved t c = λ ts k g.
    c.loop-stmt.invariant ts k
    (body_met ts c.loop-stmt.before c.in_ok-before.before c.loop-stmt.self c.stmt.new.self k c.args.stmts.now c.loop-stmt.stmt-index c.stmt-item.result c.stmt-item.is c.loop-stmt-test.true (c.in_ok-before.ensures ts) g)

pub body-returns : goal.body-returns
body-returns t c = λ ts. c.loop-stmt.invariant ts c.loop-stmt.self (body_done ts c.loop-stmt.before c.loop-stmt.self c.args.stmts.now c.loop-stmt.stmt-index c.loop-stmt-test.false)

pub branches-body-requires : goal.branches-body-requires
branches-body-requires t c =
    let less = past_at (λ (b : Vec Stmt Global). heights b.items) c.args.list.now c.loop-i.i c.index-list-i.result c.index-list-i.is c.loop-i-test.true in
    omega (arith, less, ap heights c.deref.ensures.value, c.decreases)

pub branches-loop-i-preserved : goal.branches-loop-i-preserved
branches-loop-i-preserved t c = λ ts k g.
    c.loop-i.invariant ts k
    (branches_met ts c.loop-i.self c.body.new.self k c.args.list.now c.loop-i.i c.index-list-i.result c.index-list-i.is c.loop-i-test.true
    (met_as c.loop-i.self c.body.new.self _ _ (ap (λ (ys : List Stmt). labels false (statements_at ts ys)) c.deref.ensures.value) (c.in_ok-body.ensures ts)) g)

pub branches-returns : goal.branches-returns
branches-returns t c = λ ts. c.loop-i.invariant ts c.loop-i.self (branches_done ts c.loop-i.self c.args.list.now c.loop-i.i c.loop-i-test.false)

pub stmt-branches-requires : goal.stmt-branches-requires
stmt-branches-requires t c =
    omega (arith, either_height c.in-Either.field-0 c.in-Either.list, ap branch_heights c.deref-in-Either.ensures.value, ap height c.in-Either.is, c.decreases)

pub stmt-returns-in_ok-body-in-If-2 : goal.stmt-returns-in_ok-body-in-If-2
stmt-returns-in_ok-body-in-If-2 t c = λ ts.
    subst (λ (z : Stmt). MeetsStmt ts z c.args.before false c.args.self.now c.body-in-If.new.self) (sym c.in-If.is)
    (if_met ts c.args.before c.args.self.now c.body-in-If.new.self c.body.new.self c.in-If.field-0 c.in-If.field-1 c.in-If.then c.in-If.otherwise
    (met_as c.args.self.now c.body.new.self _ _ (ap (λ (ys : List Stmt). labels false (statements_at ts ys)) c.deref.ensures.value) (c.in_ok-body-in-If.ensures ts))
    (met_as c.body.new.self c.body-in-If.new.self _ _ (ap (λ (ys : List Stmt). labels false (statements_at ts ys)) c.deref-in-If.ensures.value) (c.in_ok-body-in-If-2.ensures ts)))

pub stmt-returns-in_ok-branches-in-Either : goal.stmt-returns-in_ok-branches-in-Either
stmt-returns-in_ok-branches-in-Either t c = λ ts.
    subst (λ (z : Stmt). MeetsStmt ts z c.args.before false c.args.self.now c.branches.new.self) (sym c.in-Either.is)
    (either_met ts c.args.before c.args.self.now c.branches.new.self c.in-Either.field-0 c.in-Either.list
    (met_as c.args.self.now c.branches.new.self _ _ (ap (λ (ys : List (Vec Stmt Global)). labels_of_some (branches_at ts ys)) c.deref-in-Either.ensures.value) (c.in_ok-branches-in-Either.ensures ts)))

pub stmt-returns-in_ok-body-in-With : goal.stmt-returns-in_ok-body-in-With
stmt-returns-in_ok-body-in-With t c = λ ts.
    subst (λ (z : Stmt). MeetsStmt ts z c.args.before false c.args.self.now c.body-in-With.new.self) (sym c.in-With.is)
    (with_met ts c.args.before c.args.self.now c.body-in-With.new.self c.in-With.field-0 c.in-With.field-1 c.in-With.body
    (met_as c.args.self.now c.body-in-With.new.self _ _ (ap (λ (ys : List Stmt). labels false (statements_at ts ys)) c.deref-in-With.ensures.value) (c.in_ok-body-in-With.ensures ts)))

pub stmt-returns-in_ok-body-in-While : goal.stmt-returns-in_ok-body-in-While
stmt-returns-in_ok-body-in-While t c = λ ts.
    subst (λ (z : Stmt). MeetsStmt ts z c.args.before false c.args.self.now c.body-in-While.new.self) (sym c.in-While.is)
    (while_met ts c.args.before c.args.self.now c.body-in-While.new.self c.in-While.field-0 c.in-While.field-1 c.in-While.body
    (met_as c.args.self.now c.body-in-While.new.self _ _ (ap (λ (ys : List Stmt). labels false (statements_at ts ys)) c.deref-in-While.ensures.value) (c.in_ok-body-in-While.ensures ts)))
