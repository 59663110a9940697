-- Proves that the labels of statements are added in the order of the text.
use Rattle.std.proofs.Common.{◌++◌, ◌+◌, List, ◌∷◌, [], drop, Vec, Global, ap, ◌∙◌, arith}
use Rattle.std.proofs.lemmas.Result.{on_ok_weaker}
use Rattle.tla_tree.specs.Tree.{Name, Word, words}
use Rattle.tla_tree.proofs.PoolNumbers.{past_at}
use Rattle.pcal_tree.specs.declared.algorithm.Stmt.{Stmt}
use Rattle.pcal_tree.specs.InMemory.{statements_at, branches_at}
use Rattle.pcal_tree.proofs.StatementHeights.{height, heights, branch_heights, if_height, either_height, with_height, while_height}
use Rattle.algorithm_limits.specs.LabelNames.{names_of_some}
use Rattle.module_formulas.proofs.LabelLists.{label_words, with_label, with_if, with_either, with_with, with_while, with_simple, stmt_more, stmts_done, branch_more, branches_done}
use Rattle.module_formulas.proofs.labels.+labels.Goals as goal

pub add_statements-add_stmt-requires : goal.add_statements-add_stmt-requires
add_statements-add_stmt-requires t c =
    let less = past_at height c.args.stmts.now c.loop-stmt.stmt-index c.stmt-item.result c.stmt-item.is c.loop-stmt-test.true in omega (arith, less, c.decreases)

pub add_branches-add_statements-requires : goal.add_branches-add_statements-requires
add_branches-add_statements-requires t c =
    let less = past_at (λ (b : Vec Stmt Global). heights b.items) c.args.list.now c.loop-i.i c.index-list-i.result c.index-list-i.is c.loop-i-test.true in
    omega (arith, less, ap heights c.deref.ensures.value, c.decreases)

pub add_statements-loop-stmt-preserved : goal.add_statements-loop-stmt-preserved
add_statements-loop-stmt-preserved t c = λ ts.
    stmt_more ts c.args.stmts.now c.loop-stmt.stmt-index c.stmt-item.result c.stmt-item.is c.loop-stmt-test.true c.loop-stmt.into c.add_stmt.new.into _
    (c.in_ok-add_stmt.ensures ts (statements_at ts (drop (c.loop-stmt.stmt-index + 1) c.args.stmts.now))) (c.loop-stmt.invariant ts)

pub add_statements-returns : goal.add_statements-returns
add_statements-returns t c = λ ts. stmts_done ts c.args.stmts.now c.loop-stmt.stmt-index c.loop-stmt.into _ c.loop-stmt-test.false (c.loop-stmt.invariant ts)

pub add_branches-loop-i-preserved : goal.add_branches-loop-i-preserved
add_branches-loop-i-preserved t c = λ ts.
    branch_more ts c.args.list.now c.loop-i.i c.index-list-i.result c.index-list-i.is c.loop-i-test.true c.loop-i.into c.add_statements.new.into _
    (c.in_ok-add_statements.ensures ts ∙ ap (λ (ys : List Stmt). c.loop-i.into ++ label_words (statements_at ts ys)) c.deref.ensures.value) (c.loop-i.invariant ts)

pub add_branches-returns : goal.add_branches-returns
add_branches-returns t c = λ ts. branches_done ts c.args.list.now c.loop-i.i c.loop-i.into _ c.loop-i-test.false (c.loop-i.invariant ts)

pub add_stmt-returns-in_ok-copied-in-Label : goal.add_stmt-returns-in_ok-copied-in-Label
add_stmt-returns-in_ok-copied-in-Label t c =
    on_ok_weaker c.push.result (λ h ts.
    with_label ts c.args.stmt.now c.args.into.now c.push.new.self c.in-Label.name c.in-Label.field-1 c.in-Label.is
    (h ∙ ap (λ (x : Word). c.args.into.now ++ x ∷ []) (c.in_ok-copied-in-Label.ensures ∙ ap (λ (x : Name). x.word) c.name.view_is)))
    c.push.ensures.ok

pub add_stmt-returns-in-Simple : goal.add_stmt-returns-in-Simple
add_stmt-returns-in-Simple t c = λ ts. with_simple ts c.args.stmt.now c.args.into.now c.in-Simple.field-0 c.in-Simple.field-1 c.in-Simple.is

pub add_stmt-returns-in_ok-add_statements-in-If : goal.add_stmt-returns-in_ok-add_statements-in-If
add_stmt-returns-in_ok-add_statements-in-If t c =
    on_ok_weaker c.add_statements-in-If.result (λ h ts.
    with_if ts c.args.stmt.now c.args.into.now c.add_statements-in-If.new.into c.in-If.field-0 c.in-If.field-1 c.in-If.then c.in-If.otherwise c.add_statements.new.into c.in-If.is
    (c.in_ok-add_statements-in-If.ensures ts ∙ ap (λ (ys : List Stmt). c.args.into.now ++ label_words (statements_at ts ys)) c.deref.ensures.value)
    (h ts ∙ ap (λ (ys : List Stmt). c.add_statements.new.into ++ label_words (statements_at ts ys)) c.deref-in-If.ensures.value))
    c.add_statements-in-If.ensures

pub add_stmt-returns-in-Either : goal.add_stmt-returns-in-Either
add_stmt-returns-in-Either t c =
    on_ok_weaker c.add_branches.result (λ h ts.
    with_either ts c.args.stmt.now c.args.into.now c.add_branches.new.into c.in-Either.field-0 c.in-Either.list c.in-Either.is
    (h ts ∙ ap (λ (ys : List (Vec Stmt Global)). c.args.into.now ++ words (names_of_some (branches_at ts ys))) c.deref-in-Either.ensures.value))
    c.add_branches.ensures

pub add_stmt-returns-in-With : goal.add_stmt-returns-in-With
add_stmt-returns-in-With t c =
    on_ok_weaker c.add_statements-in-With.result (λ h ts.
    with_with ts c.args.stmt.now c.args.into.now c.add_statements-in-With.new.into c.in-With.field-0 c.in-With.field-1 c.in-With.body c.in-With.is
    (h ts ∙ ap (λ (ys : List Stmt). c.args.into.now ++ label_words (statements_at ts ys)) c.deref-in-With.ensures.value))
    c.add_statements-in-With.ensures

pub add_stmt-returns-in-While : goal.add_stmt-returns-in-While
add_stmt-returns-in-While t c =
    on_ok_weaker c.add_statements-in-While.result (λ h ts.
    with_while ts c.args.stmt.now c.args.into.now c.add_statements-in-While.new.into c.in-While.field-0 c.in-While.field-1 c.in-While.body c.in-While.is
    (h ts ∙ ap (λ (ys : List Stmt). c.args.into.now ++ label_words (statements_at ts ys)) c.deref-in-While.ensures.value))
    c.add_statements-in-While.ensures

pub add_stmt-add_statements-requires : goal.add_stmt-add_statements-requires
add_stmt-add_statements-requires t c =
    omega (arith, if_height c.in-If.field-0 c.in-If.field-1 c.in-If.then c.in-If.otherwise, ap heights c.deref.ensures.value, ap height c.in-If.is, c.decreases)

pub add_stmt-add_statements-requires-in-If : goal.add_stmt-add_statements-requires-in-If
add_stmt-add_statements-requires-in-If t c =
    omega (arith, if_height c.in-If.field-0 c.in-If.field-1 c.in-If.then c.in-If.otherwise, ap heights c.deref-in-If.ensures.value, ap height c.in-If.is, c.decreases)

pub add_stmt-add_branches-requires : goal.add_stmt-add_branches-requires
add_stmt-add_branches-requires t c =
    omega (arith, either_height c.in-Either.field-0 c.in-Either.list, ap branch_heights c.deref-in-Either.ensures.value, ap height c.in-Either.is, c.decreases)

pub add_stmt-add_statements-requires-in-With : goal.add_stmt-add_statements-requires-in-With
add_stmt-add_statements-requires-in-With t c =
    omega (arith, with_height c.in-With.field-0 c.in-With.field-1 c.in-With.body, ap heights c.deref-in-With.ensures.value, ap height c.in-With.is, c.decreases)

pub add_stmt-add_statements-requires-in-While : goal.add_stmt-add_statements-requires-in-While
add_stmt-add_statements-requires-in-While t c =
    omega (arith, while_height c.in-While.field-0 c.in-While.field-1 c.in-While.body, ap heights c.deref-in-While.ensures.value, ap height c.in-While.is, c.decreases)
