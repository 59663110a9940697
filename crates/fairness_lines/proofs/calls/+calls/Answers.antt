-- Proves that the numbers of what statements call are added, in the order of the text.
use Rattle.std.proofs.Common.{◌≡◌, ◌++◌, List, Vec, Global, sym, ap, subst, append-nil, arith}
use Rattle.std.proofs.lemmas.Result.{on_ok_weaker}
use Rattle.tla_tree.proofs.PoolNumbers.{past_at}
use Rattle.pcal_tree.specs.declared.algorithm.Stmt.{Stmt}
use Rattle.pcal_tree.specs.InMemory.{statements_at, branches_at}
use Rattle.pcal_tree.proofs.StatementHeights.{height, heights, branch_heights, if_height, either_height, with_height, while_height}
use Rattle.marked_labels.proofs.Walks.{left_more, left_none, branch_more, branch_none, label_adds, simple_adds, if_adds, either_adds, with_adds, while_adds}
use Rattle.fairness_lines.proofs.NumberLaws.{numbers, numbers_some, numbers_inside, numbers_here, numbers_walk}
use Rattle.fairness_lines.proofs.calls.+calls.Goals as goal

pub branches-statements-requires : goal.branches-statements-requires
branches-statements-requires t c =
    let less = past_at (λ (b : Vec Stmt Global). heights b.items) c.args.list.now c.loop-i.i c.index-list-i.result c.index-list-i.is c.loop-i-test.true in
    omega (arith, less, ap heights c.deref.ensures.value, c.decreases)

pub branches-loop-i-preserved : goal.branches-loop-i-preserved
branches-loop-i-preserved t c = λ ts.
    branch_more (numbers c.args.names.now) (numbers_some c.args.names.now) (numbers_inside c.args.names.now) (numbers_here c.args.names.now) (numbers_walk c.args.names.now) ts c.args.list.now c.loop-i.i c.index-list-i.result c.index-list-i.is c.loop-i-test.true _ _ _
    (subst (λ (ys : List Stmt). c.statements.new.into.items ≡ c.loop-i.into.items ++ numbers c.args.names.now (statements_at ts ys)) c.deref.ensures.value (c.in_ok-statements.ensures ts))
    (c.loop-i.invariant ts)

pub statements-loop-i-preserved : goal.statements-loop-i-preserved
statements-loop-i-preserved t c = λ ts. left_more (numbers c.args.names.now) (numbers_some c.args.names.now) (numbers_inside c.args.names.now) (numbers_here c.args.names.now) (numbers_walk c.args.names.now) ts c.args.stmts.now c.loop-i.i _ _ _ (c.in_ok-stmt.ensures ts) (c.loop-i.invariant ts)

pub statements-returns : goal.statements-returns
statements-returns t c = λ ts. left_none (numbers c.args.names.now) (numbers_some c.args.names.now) (numbers_inside c.args.names.now) (numbers_here c.args.names.now) (numbers_walk c.args.names.now) ts c.args.stmts.now c.loop-i.i _ _ c.loop-i-test.false (c.loop-i.invariant ts)

pub branches-returns : goal.branches-returns
branches-returns t c = λ ts. branch_none (numbers c.args.names.now) (numbers_some c.args.names.now) (numbers_inside c.args.names.now) (numbers_here c.args.names.now) (numbers_walk c.args.names.now) ts c.args.list.now c.loop-i.i _ _ c.loop-i-test.false (c.loop-i.invariant ts)

pub stmt-statements-requires : goal.stmt-statements-requires
stmt-statements-requires t c =
    let less = past_at height c.args.stmts.now c.args.at c.index-stmts-at.result c.index-stmts-at.is c.requires in
    omega (arith, less, if_height c.in-If.field-0 c.in-If.field-1 c.in-If.then c.in-If.otherwise, ap heights c.deref.ensures.value, ap height c.in-If.is, c.decreases)

pub stmt-statements-requires-in-If : goal.stmt-statements-requires-in-If
stmt-statements-requires-in-If t c =
    let less = past_at height c.args.stmts.now c.args.at c.index-stmts-at.result c.index-stmts-at.is c.requires in
    omega (arith, less, if_height c.in-If.field-0 c.in-If.field-1 c.in-If.then c.in-If.otherwise, ap heights c.deref-in-If.ensures.value, ap height c.in-If.is, c.decreases)

pub stmt-branches-requires : goal.stmt-branches-requires
stmt-branches-requires t c =
    let less = past_at height c.args.stmts.now c.args.at c.index-stmts-at.result c.index-stmts-at.is c.requires in
    omega (arith, less, either_height c.in-Either.field-0 c.in-Either.list, ap branch_heights c.deref-in-Either.ensures.value, ap height c.in-Either.is, c.decreases)

pub stmt-statements-requires-in-With : goal.stmt-statements-requires-in-With
stmt-statements-requires-in-With t c =
    let less = past_at height c.args.stmts.now c.args.at c.index-stmts-at.result c.index-stmts-at.is c.requires in
    omega (arith, less, with_height c.in-With.field-0 c.in-With.field-1 c.in-With.body, ap heights c.deref-in-With.ensures.value, ap height c.in-With.is, c.decreases)

pub stmt-statements-requires-in-While : goal.stmt-statements-requires-in-While
stmt-statements-requires-in-While t c =
    let less = past_at height c.args.stmts.now c.args.at c.index-stmts-at.result c.index-stmts-at.is c.requires in
    omega (arith, less, while_height c.in-While.field-0 c.in-While.field-1 c.in-While.body, ap heights c.deref-in-While.ensures.value, ap height c.in-While.is, c.decreases)

pub stmt-returns-in-Label : goal.stmt-returns-in-Label
stmt-returns-in-Label t c = λ ts. label_adds (numbers c.args.names.now) (numbers_some c.args.names.now) (numbers_inside c.args.names.now) (numbers_here c.args.names.now) (numbers_walk c.args.names.now) ts c.args.stmts.now c.args.at c.index-stmts-at.result c.index-stmts-at.is c.requires _ _ c.in-Label.field-0 c.in-Label.field-1 c.in-Label.is (sym (append-nil c.args.into.now.items))

pub stmt-returns-in-Simple : goal.stmt-returns-in-Simple
stmt-returns-in-Simple t c =
    on_ok_weaker c.add_call.result (λ g ts. simple_adds (numbers c.args.names.now) (numbers_some c.args.names.now) (numbers_inside c.args.names.now) (numbers_here c.args.names.now) (numbers_walk c.args.names.now) ts c.args.stmts.now c.args.at c.index-stmts-at.result c.index-stmts-at.is c.requires _ _ c.in-Simple.field-0 c.in-Simple.one c.in-Simple.is (g ts)) c.add_call.ensures

pub stmt-returns-in_ok-statements-in-If : goal.stmt-returns-in_ok-statements-in-If
stmt-returns-in_ok-statements-in-If t c =
    on_ok_weaker c.statements-in-If.result (λ g ts.
    if_adds (numbers c.args.names.now) (numbers_some c.args.names.now) (numbers_inside c.args.names.now) (numbers_here c.args.names.now) (numbers_walk c.args.names.now) ts c.args.stmts.now c.args.at c.index-stmts-at.result c.index-stmts-at.is c.requires _ _ c.in-If.field-0 c.in-If.field-1 c.in-If.then c.in-If.otherwise c.statements.new.into.items c.in-If.is
    (subst (λ (ys : List Stmt). c.statements.new.into.items ≡ c.args.into.now.items ++ numbers c.args.names.now (statements_at ts ys)) c.deref.ensures.value (c.in_ok-statements-in-If.ensures ts))
    (subst (λ (ys : List Stmt). c.statements-in-If.new.into.items ≡ c.statements.new.into.items ++ numbers c.args.names.now (statements_at ts ys)) c.deref-in-If.ensures.value (g ts)))
    c.statements-in-If.ensures

pub stmt-returns-in-Either : goal.stmt-returns-in-Either
stmt-returns-in-Either t c =
    on_ok_weaker c.branches.result (λ g ts.
    either_adds (numbers c.args.names.now) (numbers_some c.args.names.now) (numbers_inside c.args.names.now) (numbers_here c.args.names.now) (numbers_walk c.args.names.now) ts c.args.stmts.now c.args.at c.index-stmts-at.result c.index-stmts-at.is c.requires _ _ c.in-Either.field-0 c.in-Either.list c.in-Either.is
    (subst (λ (ys : List (Vec Stmt Global)). c.branches.new.into.items ≡ c.args.into.now.items ++ numbers_some c.args.names.now (branches_at ts ys)) c.deref-in-Either.ensures.value (g ts)))
    c.branches.ensures

pub stmt-returns-in-With : goal.stmt-returns-in-With
stmt-returns-in-With t c =
    on_ok_weaker c.statements-in-With.result (λ g ts.
    with_adds (numbers c.args.names.now) (numbers_some c.args.names.now) (numbers_inside c.args.names.now) (numbers_here c.args.names.now) (numbers_walk c.args.names.now) ts c.args.stmts.now c.args.at c.index-stmts-at.result c.index-stmts-at.is c.requires _ _ c.in-With.field-0 c.in-With.field-1 c.in-With.body c.in-With.is
    (subst (λ (ys : List Stmt). c.statements-in-With.new.into.items ≡ c.args.into.now.items ++ numbers c.args.names.now (statements_at ts ys)) c.deref-in-With.ensures.value (g ts)))
    c.statements-in-With.ensures

pub stmt-returns-in-While : goal.stmt-returns-in-While
stmt-returns-in-While t c =
    on_ok_weaker c.statements-in-While.result (λ g ts.
    while_adds (numbers c.args.names.now) (numbers_some c.args.names.now) (numbers_inside c.args.names.now) (numbers_here c.args.names.now) (numbers_walk c.args.names.now) ts c.args.stmts.now c.args.at c.index-stmts-at.result c.index-stmts-at.is c.requires _ _ c.in-While.field-0 c.in-While.field-1 c.in-While.body c.in-While.is
    (subst (λ (ys : List Stmt). c.statements-in-While.new.into.items ≡ c.args.into.now.items ++ numbers c.args.names.now (statements_at ts ys)) c.deref-in-While.ensures.value (g ts)))
    c.statements-in-While.ensures
