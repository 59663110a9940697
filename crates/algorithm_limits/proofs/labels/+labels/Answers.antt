-- Proves what is asked of the functions that count labels.
use Rattle.std.proofs.Common.{List, Vec, Global, sym, ap, ◌∙◌, arith}
use Rattle.pcal_tree.specs.declared.algorithm.Stmt.{Stmt}
use Rattle.pcal_tree.specs.InMemory.{stmt_at, statements_at, branches_at}
use Rattle.pcal_tree.proofs.StatementHeights.{height, heights, branch_heights, either_height}
use Rattle.tla_tree.proofs.PoolNumbers.{past_at}
use Rattle.algorithm_limits.specs.Counting.{counted}
use Rattle.algorithm_limits.specs.LabelNames.{label_names, names_of_some}
use Rattle.algorithm_limits.proofs.LabelWalks.{simple_counted, if_counted, either_counted, with_counted, while_counted, stmt_more, stmts_done, branch_more}
use Rattle.algorithm_limits.proofs.labels.+labels.Goals as goal

pub with_branches-with_statements-so_far-requires : goal.with_branches-with_statements-so_far-requires
with_branches-with_statements-so_far-requires t c =
    let less = past_at (λ (b : Vec Stmt Global). heights b.items) c.args.list.now c.loop-i.i c.index-list-i.result c.index-list-i.is c.loop-i-test.true in
    omega (arith, less, ap heights c.deref.ensures.value, c.decreases)

pub with_statements-with_stmt-so_far-requires : goal.with_statements-with_stmt-so_far-requires
with_statements-with_stmt-so_far-requires t c =
    let less = past_at height c.args.stmts.now c.loop-stmt.stmt-index c.stmt-item.result c.stmt-item.is c.loop-stmt-test.true in omega (arith, less, c.decreases)

pub with_stmt-with_branches-requires : goal.with_stmt-with_branches-requires
with_stmt-with_branches-requires t c =
    omega (arith, either_height c.in-Either.field-0 c.in-Either.list, ap branch_heights c.deref-in-Either.ensures.value, ap height c.in-Either.is, c.decreases)

pub with_branches-loop-i-preserved : goal.with_branches-loop-i-preserved
with_branches-loop-i-preserved t c = λ ts.
    branch_more ts c.loop-i.so_far _ c.args.list.now c.loop-i.i c.index-list-i.result c.index-list-i.is c.loop-i-test.true
    (c.with_statements-so_far.ensures ts ∙ ap (λ (ys : List Stmt). counted c.loop-i.so_far (label_names (statements_at ts ys))) c.deref.ensures.value)
    ∙ c.loop-i.invariant ts

pub with_statements-loop-stmt-preserved : goal.with_statements-loop-stmt-preserved
with_statements-loop-stmt-preserved t c = λ ts.
    stmt_more ts c.loop-stmt.so_far _ c.args.stmts.now c.loop-stmt.stmt-index c.stmt-item.result c.stmt-item.is c.loop-stmt-test.true (c.with_stmt-so_far.ensures ts) ∙ c.loop-stmt.invariant ts

pub with_statements-returns : goal.with_statements-returns
with_statements-returns t c = λ ts. sym (stmts_done ts c.loop-stmt.so_far c.args.stmts.now c.loop-stmt.stmt-index c.loop-stmt-test.false) ∙ c.loop-stmt.invariant ts

pub with_stmt-returns-in-Simple : goal.with_stmt-returns-in-Simple
with_stmt-returns-in-Simple t c = λ ts rest.
    simple_counted ts c.args.count rest c.in-Simple.field-0 c.in-Simple.field-1
    ∙ ap (λ (z : Stmt). counted c.args.count (label_names (stmt_at ts z rest))) (sym c.in-Simple.is)

pub with_stmt-returns-in-If : goal.with_stmt-returns-in-If
with_stmt-returns-in-If t c = λ ts rest.
    if_counted ts c.args.count rest _ _ c.in-If.field-0 c.in-If.field-1 c.in-If.then c.in-If.otherwise
    (c.with_statements-first.ensures ts ∙ ap (λ (ys : List Stmt). counted c.args.count (label_names (statements_at ts ys))) c.deref.ensures.value)
    (c.with_statements.ensures ts ∙ ap (λ (ys : List Stmt). counted c.with_statements-first.result (label_names (statements_at ts ys))) c.deref-in-If.ensures.value)
    ∙ ap (λ (z : Stmt). counted c.args.count (label_names (stmt_at ts z rest))) (sym c.in-If.is)

pub with_stmt-returns-in-Either : goal.with_stmt-returns-in-Either
with_stmt-returns-in-Either t c = λ ts rest.
    either_counted ts c.args.count rest _ c.in-Either.field-0 c.in-Either.list
    (c.with_branches.ensures ts ∙ ap (λ (ys : List (Vec Stmt Global)). counted c.args.count (names_of_some (branches_at ts ys))) c.deref-in-Either.ensures.value)
    ∙ ap (λ (z : Stmt). counted c.args.count (label_names (stmt_at ts z rest))) (sym c.in-Either.is)

pub with_stmt-returns-in-With : goal.with_stmt-returns-in-With
with_stmt-returns-in-With t c = λ ts rest.
    with_counted ts c.args.count rest _ c.in-With.field-0 c.in-With.field-1 c.in-With.body (c.with_statements-in-With.ensures ts ∙ ap (λ (ys : List Stmt). counted c.args.count (label_names (statements_at ts ys))) c.deref-in-With.ensures.value)
    ∙ ap (λ (z : Stmt). counted c.args.count (label_names (stmt_at ts z rest))) (sym c.in-With.is)

pub with_stmt-returns-in-While : goal.with_stmt-returns-in-While
with_stmt-returns-in-While t c = λ ts rest.
    while_counted ts c.args.count rest _ c.in-While.field-0 c.in-While.field-1 c.in-While.body (c.with_statements-in-While.ensures ts ∙ ap (λ (ys : List Stmt). counted c.args.count (label_names (statements_at ts ys))) c.deref-in-While.ensures.value)
    ∙ ap (λ (z : Stmt). counted c.args.count (label_names (stmt_at ts z rest))) (sym c.in-While.is)
