-- Proves that the macros that statements call are marked.
use Rattle.std.proofs.Common.{List, Vec, Global, sym, ap, subst, arith}
use Rattle.std.proofs.lemmas.Result.{on_ok_weaker}
use Rattle.tla_tree.proofs.PoolNumbers.{past_at}
use Rattle.pcal_tree.specs.declared.algorithm.Stmt.{Stmt}
use Rattle.pcal_tree.specs.InMemory.{statements_at, branches_at}
use Rattle.pcal_tree.specs.OffencesCounts.{calls_of, calls_of_some}
use Rattle.pcal_tree.proofs.StatementHeights.{height, heights, branch_heights, either_height}
use Rattle.read_rules.specs.Calls.{AddsStmtCalls}
use Rattle.read_rules.proofs.CallLaws.{calls_as, label_calls, simple_calls, if_calls, either_calls, with_calls, while_calls, body_calls, body_called, branches_calls, branches_called}
use Rattle.read_rules.proofs.calls.+calls.Goals as goal

pub add_calls-add_stmt-requires : goal.add_calls-add_stmt-requires
add_calls-add_stmt-requires t c =
    let less = past_at height c.args.stmts.now c.loop-stmt.stmt-index c.stmt-item.result c.stmt-item.is c.loop-stmt-test.true in omega (arith, less, c.decreases)

pub add_calls-loop-stmt-preserved : goal.add_calls-loop-stmt-preserved
add_calls-loop-stmt-preserved t c = λ ts k g.
    c.loop-stmt.invariant ts k (body_calls ts c.loop-stmt.called c.add_stmt.new.called k c.args.stmts.now c.loop-stmt.stmt-index c.stmt-item.result c.stmt-item.is c.loop-stmt-test.true (c.in_ok-add_stmt.ensures ts) g)

pub add_calls-returns : goal.add_calls-returns
add_calls-returns t c = λ ts. c.loop-stmt.invariant ts c.loop-stmt.called (body_called ts c.loop-stmt.called c.args.stmts.now c.loop-stmt.stmt-index c.loop-stmt-test.false)

pub add_branches-add_calls-requires : goal.add_branches-add_calls-requires
add_branches-add_calls-requires t c =
    let less = past_at (λ (b : Vec Stmt Global). heights b.items) c.args.list.now c.loop-i.i c.index-list-i.result c.index-list-i.is c.loop-i-test.true in
    omega (arith, less, ap heights c.deref.ensures.value, c.decreases)

pub add_branches-loop-i-preserved : goal.add_branches-loop-i-preserved
add_branches-loop-i-preserved t c = λ ts k g.
    c.loop-i.invariant ts k
    (branches_calls ts c.loop-i.called c.add_calls.new.called k c.args.list.now c.loop-i.i c.index-list-i.result c.index-list-i.is c.loop-i-test.true
    (calls_as c.loop-i.called c.add_calls.new.called _ _ (ap (λ (ys : List Stmt). calls_of (statements_at ts ys)) c.deref.ensures.value) (c.in_ok-add_calls.ensures ts)) g)

pub add_branches-returns : goal.add_branches-returns
add_branches-returns t c = λ ts. c.loop-i.invariant ts c.loop-i.called (branches_called ts c.loop-i.called c.args.list.now c.loop-i.i c.loop-i-test.false)

pub add_stmt-add_branches-requires : goal.add_stmt-add_branches-requires
add_stmt-add_branches-requires t c =
    omega (arith, either_height c.in-Either.field-0 c.in-Either.list, ap branch_heights c.deref-in-Either.ensures.value, ap height c.in-Either.is, c.decreases)

pub add_stmt-returns-in-Label : goal.add_stmt-returns-in-Label
add_stmt-returns-in-Label t c = λ ts.
    subst (λ (z : Stmt). AddsStmtCalls ts z c.args.called.now c.args.called.now) (sym c.in-Label.is) (label_calls ts c.args.called.now c.args.called.now c.in-Label.field-0 c.in-Label.field-1)

pub add_stmt-returns-in_ok-add_calls-in-If : goal.add_stmt-returns-in_ok-add_calls-in-If
add_stmt-returns-in_ok-add_calls-in-If t c =
    on_ok_weaker c.add_calls-in-If.result
    (λ done ts.
    subst (λ (z : Stmt). AddsStmtCalls ts z c.args.called.now c.add_calls-in-If.new.called) (sym c.in-If.is)
    (if_calls ts c.args.called.now c.add_calls.new.called c.add_calls-in-If.new.called c.in-If.field-0 c.in-If.field-1 c.in-If.then c.in-If.otherwise
    (calls_as c.args.called.now c.add_calls.new.called _ _ (ap (λ (ys : List Stmt). calls_of (statements_at ts ys)) c.deref.ensures.value) (c.in_ok-add_calls-in-If.ensures ts))
    (calls_as c.add_calls.new.called c.add_calls-in-If.new.called _ _ (ap (λ (ys : List Stmt). calls_of (statements_at ts ys)) c.deref-in-If.ensures.value) (done ts)))) c.add_calls-in-If.ensures

pub add_stmt-returns-in-Either : goal.add_stmt-returns-in-Either
add_stmt-returns-in-Either t c =
    on_ok_weaker c.add_branches.result
    (λ done ts.
    subst (λ (z : Stmt). AddsStmtCalls ts z c.args.called.now c.add_branches.new.called) (sym c.in-Either.is)
    (either_calls ts c.args.called.now c.add_branches.new.called c.in-Either.field-0 c.in-Either.list
    (calls_as c.args.called.now c.add_branches.new.called _ _ (ap (λ (ys : List (Vec Stmt Global)). calls_of_some (branches_at ts ys)) c.deref-in-Either.ensures.value) (done ts)))) c.add_branches.ensures

pub add_stmt-returns-in-With : goal.add_stmt-returns-in-With
add_stmt-returns-in-With t c =
    on_ok_weaker c.add_calls-in-With.result
    (λ done ts.
    subst (λ (z : Stmt). AddsStmtCalls ts z c.args.called.now c.add_calls-in-With.new.called) (sym c.in-With.is)
    (with_calls ts c.args.called.now c.add_calls-in-With.new.called c.in-With.field-0 c.in-With.field-1 c.in-With.body
    (calls_as c.args.called.now c.add_calls-in-With.new.called _ _ (ap (λ (ys : List Stmt). calls_of (statements_at ts ys)) c.deref-in-With.ensures.value) (done ts)))) c.add_calls-in-With.ensures

pub add_stmt-returns-in-While : goal.add_stmt-returns-in-While
add_stmt-returns-in-While t c =
    on_ok_weaker c.add_calls-in-While.result
    (λ done ts.
    subst (λ (z : Stmt). AddsStmtCalls ts z c.args.called.now c.add_calls-in-While.new.called) (sym c.in-While.is)
    (while_calls ts c.args.called.now c.add_calls-in-While.new.called c.in-While.field-0 c.in-While.field-1 c.in-While.body
    (calls_as c.args.called.now c.add_calls-in-While.new.called _ _ (ap (λ (ys : List Stmt). calls_of (statements_at ts ys)) c.deref-in-While.ensures.value) (done ts)))) c.add_calls-in-While.ensures

pub add_stmt-returns-in-Simple : goal.add_stmt-returns-in-Simple
add_stmt-returns-in-Simple t c =
    on_ok_weaker c.add_simple.result
    (λ done ts.
    subst (λ (z : Stmt). AddsStmtCalls ts z c.args.called.now c.add_simple.new.called) (sym c.in-Simple.is)
    (simple_calls ts c.args.called.now c.add_simple.new.called c.in-Simple.field-0 c.in-Simple.simple (done ts))) c.add_simple.ensures
