-- Proves that all jumps and labels that may not be where they are are found.
use Rattle.std.proofs.Common.{List, ◌++◌, Vec, Global, sym, ap, ◌∙◌, arith}
use Rattle.tla_tree.proofs.PoolNumbers.{past_at}
use Rattle.pcal_tree.specs.declared.algorithm.Stmt.{Stmt}
use Rattle.pcal_tree.specs.InMemory.{stmt_at, statements_at, branches_at}
use Rattle.pcal_tree.specs.OffencesLabels.{within_with, jump_offences, jump_offences_of_some}
use Rattle.pcal_tree.proofs.StatementHeights.{height, heights, branch_heights, either_height}
use Rattle.label_jumps.proofs.JumpLaws.{stands_in_with}
use Rattle.label_rules.proofs.JumpLaws.{simple_jumps, if_jumps, either_jumps, with_jumps, while_jumps, stmt_more, stmts_done, branch_more, branches_done}
use Rattle.label_rules.proofs.jumps.+jumps.Goals as goal

pub of_statements-of_stmt-requires : goal.of_statements-of_stmt-requires
of_statements-of_stmt-requires t c =
    let less = past_at height c.args.stmts.now c.loop-stmt.stmt-index c.stmt-item.result c.stmt-item.is c.loop-stmt-test.true in omega (arith, less, c.decreases)

pub of_statements-loop-stmt-preserved : goal.of_statements-loop-stmt-preserved
of_statements-loop-stmt-preserved t c = λ ts w s.
    stmt_more w ts c.loop-stmt.found.items _ c.args.stmts.now c.loop-stmt.stmt-index c.stmt-item.result c.stmt-item.is c.loop-stmt-test.true (c.in_ok-of_stmt.ensures ts w s) ∙ c.loop-stmt.invariant ts w s

pub of_statements-returns : goal.of_statements-returns
of_statements-returns t c = λ ts w s. sym (stmts_done w ts c.loop-stmt.found.items c.args.stmts.now c.loop-stmt.stmt-index c.loop-stmt-test.false) ∙ c.loop-stmt.invariant ts w s

pub of_branches-of_statements-requires : goal.of_branches-of_statements-requires
of_branches-of_statements-requires t c =
    let less = past_at (λ (b : Vec Stmt Global). heights b.items) c.args.list.now c.loop-i.i c.index-list-i.result c.index-list-i.is c.loop-i-test.true in
    omega (arith, less, ap heights c.deref.ensures.value, c.decreases)

pub of_branches-loop-i-preserved : goal.of_branches-loop-i-preserved
of_branches-loop-i-preserved t c = λ ts w s.
    branch_more w ts c.loop-i.found.items _ c.args.list.now c.loop-i.i c.index-list-i.result c.index-list-i.is c.loop-i-test.true
    (c.in_ok-of_statements.ensures ts w s ∙ ap (λ (ys : List Stmt). c.loop-i.found.items ++ jump_offences w (statements_at ts ys)) c.deref.ensures.value)
    ∙ c.loop-i.invariant ts w s

pub of_branches-returns : goal.of_branches-returns
of_branches-returns t c = λ ts w s. sym (branches_done w ts c.loop-i.found.items c.args.list.now c.loop-i.i c.loop-i-test.false) ∙ c.loop-i.invariant ts w s

pub of_stmt-of_branches-requires : goal.of_stmt-of_branches-requires
of_stmt-of_branches-requires t c =
    omega (arith, either_height c.in-Either.field-0 c.in-Either.list, ap branch_heights c.deref-in-Either.ensures.value, ap height c.in-Either.is, c.decreases)

pub of_stmt-returns-in_ok-of_simple-in-Simple : goal.of_stmt-returns-in_ok-of_simple-in-Simple
of_stmt-returns-in_ok-of_simple-in-Simple t c = λ ts w s rest.
    simple_jumps c.args.body.now c.args.in_with w s ts c.args.found.now.items rest c.of_simple.new.found.items c.in-Simple.span c.in-Simple.simple (c.in_ok-of_simple-in-Simple.ensures ts c.args.in_with w s)
    ∙ ap (λ (z : Stmt). c.args.found.now.items ++ jump_offences w (stmt_at ts z rest)) (sym c.in-Simple.is)

pub of_stmt-returns-in_ok-of_statements-in-If-2 : goal.of_stmt-returns-in_ok-of_statements-in-If-2
of_stmt-returns-in_ok-of_statements-in-If-2 t c = λ ts w s rest.
    if_jumps c.args.body.now c.args.in_with w s ts c.args.found.now.items rest c.of_statements.new.found.items c.of_statements-in-If.new.found.items c.in-If.field-0 c.in-If.field-1 c.in-If.then c.in-If.otherwise
    (c.in_ok-of_statements-in-If.ensures ts w s ∙ ap (λ (ys : List Stmt). c.args.found.now.items ++ jump_offences w (statements_at ts ys)) c.deref.ensures.value)
    (c.in_ok-of_statements-in-If-2.ensures ts w s ∙ ap (λ (ys : List Stmt). c.of_statements.new.found.items ++ jump_offences w (statements_at ts ys)) c.deref-in-If.ensures.value)
    ∙ ap (λ (z : Stmt). c.args.found.now.items ++ jump_offences w (stmt_at ts z rest)) (sym c.in-If.is)

pub of_stmt-returns-in_ok-of_branches-in-Either : goal.of_stmt-returns-in_ok-of_branches-in-Either
of_stmt-returns-in_ok-of_branches-in-Either t c = λ ts w s rest.
    either_jumps c.args.body.now c.args.in_with w s ts c.args.found.now.items rest c.of_branches.new.found.items c.in-Either.field-0 c.in-Either.list
    (c.in_ok-of_branches-in-Either.ensures ts w s ∙ ap (λ (ys : List (Vec Stmt Global)). c.args.found.now.items ++ jump_offences_of_some w (branches_at ts ys)) c.deref-in-Either.ensures.value)
    ∙ ap (λ (z : Stmt). c.args.found.now.items ++ jump_offences w (stmt_at ts z rest)) (sym c.in-Either.is)

pub of_stmt-returns-in_ok-of_statements-in-With : goal.of_stmt-returns-in_ok-of_statements-in-With
of_stmt-returns-in_ok-of_statements-in-With t c = λ ts w s rest.
    with_jumps c.args.body.now c.args.in_with w s ts c.args.found.now.items rest c.of_statements-in-With.new.found.items c.in-With.field-0 c.in-With.field-1 c.in-With.inner
    (c.in_ok-of_statements-in-With.ensures ts (within_with w) (stands_in_with c.args.body.now c.args.in_with w s) ∙ ap (λ (ys : List Stmt). c.args.found.now.items ++ jump_offences (within_with w) (statements_at ts ys)) c.deref-in-With.ensures.value)
    ∙ ap (λ (z : Stmt). c.args.found.now.items ++ jump_offences w (stmt_at ts z rest)) (sym c.in-With.is)

pub of_stmt-returns-in_ok-of_statements-in-While : goal.of_stmt-returns-in_ok-of_statements-in-While
of_stmt-returns-in_ok-of_statements-in-While t c = λ ts w s rest.
    while_jumps c.args.body.now c.args.in_with w s ts c.args.found.now.items rest c.push_offence-in-While.new.found.items c.of_statements-in-While.new.found.items c.in-While.span c.in-While.field-1 c.in-While.inner c.in_ok-push_offence-in-While.ensures
    (c.in_ok-of_statements-in-While.ensures ts w s ∙ ap (λ (ys : List Stmt). c.push_offence-in-While.new.found.items ++ jump_offences w (statements_at ts ys)) c.deref-in-While.ensures.value)
    ∙ ap (λ (z : Stmt). c.args.found.now.items ++ jump_offences w (stmt_at ts z rest)) (sym c.in-While.is)
