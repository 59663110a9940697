-- Proves what is asked of the functions that look for macro calls.
use Rattle.std.proofs.Common.{max, List, Vec, Global, sym, ap, ◌∙◌, arith}
use Rattle.pcal_tree.specs.declared.algorithm.Stmt.{Stmt}
use Rattle.pcal_tree.specs.InMemory.{stmt_at, statements_at, branches_at}
use Rattle.pcal_tree.proofs.StatementHeights.{height, heights, branch_heights, either_height}
use Rattle.tla_tree.proofs.PoolNumbers.{past_at}
use Rattle.pcal_tree.specs.OffencesCounts.{calls_of, calls_of_some}
use Rattle.algorithm_limits.specs.ChainsIn.{longest_in}
use Rattle.algorithm_limits.proofs.CallWalks.{simple_longest, if_longest, either_longest, with_longest, while_longest, stmt_more, stmts_done, branch_more}
use Rattle.algorithm_limits.proofs.chains.+calls.Goals as goal

pub longest_in_branches-longest_in_statements-longest-requires : goal.longest_in_branches-longest_in_statements-longest-requires
longest_in_branches-longest_in_statements-longest-requires t c =
    let less = past_at (λ (b : Vec Stmt Global). heights b.items) c.args.list.now c.loop-i.i c.index-list-i.result c.index-list-i.is c.loop-i-test.true in
    omega (arith, less, ap heights c.deref.ensures.value, c.decreases)

pub longest_in_statements-longest_in_stmt-longest-requires : goal.longest_in_statements-longest_in_stmt-longest-requires
longest_in_statements-longest_in_stmt-longest-requires t c =
    let less = past_at height c.args.stmts.now c.loop-stmt.stmt-index c.stmt-item.result c.stmt-item.is c.loop-stmt-test.true in omega (arith, less, c.decreases)

pub longest_in_stmt-longest_in_branches-requires : goal.longest_in_stmt-longest_in_branches-requires
longest_in_stmt-longest_in_branches-requires t c =
    omega (arith, either_height c.in-Either.field-0 c.in-Either.list, ap branch_heights c.deref-in-Either.ensures.value, ap height c.in-Either.is, c.decreases)

pub longest_in_branches-loop-i-preserved : goal.longest_in_branches-loop-i-preserved
longest_in_branches-loop-i-preserved t c = λ ts.
    branch_more c.args.chains.now ts c.loop-i.longest _ c.args.list.now c.loop-i.i c.index-list-i.result c.index-list-i.is c.loop-i-test.true
    (c.longest_in_statements-longest.ensures ts ∙ ap (λ (ys : List Stmt). max c.loop-i.longest (longest_in c.args.chains.now (calls_of (statements_at ts ys)))) c.deref.ensures.value)
    ∙ c.loop-i.invariant ts

pub longest_in_statements-loop-stmt-preserved : goal.longest_in_statements-loop-stmt-preserved
longest_in_statements-loop-stmt-preserved t c = λ ts.
    stmt_more c.args.chains.now ts c.loop-stmt.longest _ c.args.stmts.now c.loop-stmt.stmt-index c.stmt-item.result c.stmt-item.is c.loop-stmt-test.true (c.longest_in_stmt-longest.ensures ts) ∙ c.loop-stmt.invariant ts

pub longest_in_statements-returns : goal.longest_in_statements-returns
longest_in_statements-returns t c = λ ts. sym (stmts_done c.args.chains.now ts c.loop-stmt.longest c.args.stmts.now c.loop-stmt.stmt-index c.loop-stmt-test.false) ∙ c.loop-stmt.invariant ts

pub longest_in_stmt-returns-in-Simple : goal.longest_in_stmt-returns-in-Simple
longest_in_stmt-returns-in-Simple t c = λ ts rest.
    simple_longest c.args.chains.now ts c.args.so_far rest _ c.in-Simple.field-0 c.in-Simple.simple (c.longest_in_simple.ensures ts)
    ∙ ap (λ (z : Stmt). max c.args.so_far (longest_in c.args.chains.now (calls_of (stmt_at ts z rest)))) (sym c.in-Simple.is)

pub longest_in_stmt-returns-in-If : goal.longest_in_stmt-returns-in-If
longest_in_stmt-returns-in-If t c = λ ts rest.
    if_longest c.args.chains.now ts c.args.so_far rest _ _ c.in-If.field-0 c.in-If.field-1 c.in-If.then c.in-If.otherwise
    (c.longest_in_statements-first.ensures ts ∙ ap (λ (ys : List Stmt). max c.args.so_far (longest_in c.args.chains.now (calls_of (statements_at ts ys)))) c.deref.ensures.value)
    (c.longest_in_statements.ensures ts ∙ ap (λ (ys : List Stmt). max c.longest_in_statements-first.result (longest_in c.args.chains.now (calls_of (statements_at ts ys)))) c.deref-in-If.ensures.value)
    ∙ ap (λ (z : Stmt). max c.args.so_far (longest_in c.args.chains.now (calls_of (stmt_at ts z rest)))) (sym c.in-If.is)

pub longest_in_stmt-returns-in-Either : goal.longest_in_stmt-returns-in-Either
longest_in_stmt-returns-in-Either t c = λ ts rest.
    either_longest c.args.chains.now ts c.args.so_far rest _ c.in-Either.field-0 c.in-Either.list
    (c.longest_in_branches.ensures ts ∙ ap (λ (ys : List (Vec Stmt Global)). max c.args.so_far (longest_in c.args.chains.now (calls_of_some (branches_at ts ys)))) c.deref-in-Either.ensures.value)
    ∙ ap (λ (z : Stmt). max c.args.so_far (longest_in c.args.chains.now (calls_of (stmt_at ts z rest)))) (sym c.in-Either.is)

pub longest_in_stmt-returns-in-With : goal.longest_in_stmt-returns-in-With
longest_in_stmt-returns-in-With t c = λ ts rest.
    with_longest c.args.chains.now ts c.args.so_far rest _ c.in-With.field-0 c.in-With.field-1 c.in-With.body (c.longest_in_statements-in-With.ensures ts ∙ ap (λ (ys : List Stmt). max c.args.so_far (longest_in c.args.chains.now (calls_of (statements_at ts ys)))) c.deref-in-With.ensures.value)
    ∙ ap (λ (z : Stmt). max c.args.so_far (longest_in c.args.chains.now (calls_of (stmt_at ts z rest)))) (sym c.in-With.is)

pub longest_in_stmt-returns-in-While : goal.longest_in_stmt-returns-in-While
longest_in_stmt-returns-in-While t c = λ ts rest.
    while_longest c.args.chains.now ts c.args.so_far rest _ c.in-While.field-0 c.in-While.field-1 c.in-While.body (c.longest_in_statements-in-While.ensures ts ∙ ap (λ (ys : List Stmt). max c.args.so_far (longest_in c.args.chains.now (calls_of (statements_at ts ys)))) c.deref-in-While.ensures.value)
    ∙ ap (λ (z : Stmt). max c.args.so_far (longest_in c.args.chains.now (calls_of (stmt_at ts z rest)))) (sym c.in-While.is)
