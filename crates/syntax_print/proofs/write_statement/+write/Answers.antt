-- Proves what is asked of the printer of statements.
use Rattle.std.proofs.Common.{◌≡◌, List, ◌++◌, Vec, Global, refl, sym, ap, subst, arith}
use Rattle.std.specs.Prelude.{codes}
use Rattle.tla_tree.specs.Pool.{at}
use Rattle.pcal_tree.specs.declared.algorithm.Bind.{Bind}
use Rattle.pcal_tree.specs.Algorithm.{branch, either, with, while}
use Rattle.pcal_tree.specs.declared.algorithm.Stmt.{Stmt}
use Rattle.pcal_tree.specs.InMemory.{span_of, simple_at, binds_at, stmt_at, statements_at, branches_at, past_stmt, past_statements, past_branches}
use Rattle.pcal_tree.proofs.InMemoryEach.{simple_in_list_at, if_at, either_at, with_at, while_at, past_either}
use Rattle.pcal_tree.specs.Printed.{Text, head, opening, listed, binds_texts, otherwise, branches}
use Rattle.pcal_tree.specs.Syntaxes.{syntax_of}
use Rattle.syntax_print.specs.Adding.{labels_after, Adds, AddsFirst}
use Rattle.syntax_print.proofs.Lines.{on_ok, not_empty}
use Rattle.tla_tree.proofs.PoolNumbers.{past_at}
use Rattle.pcal_tree.proofs.StatementHeights.{height, heights, branch_heights, either_height}
use Rattle.syntax_print.proofs.Branches.{branch_more, statement_more, no_more, otherwise_adds, rewritten, after_simple, after_if, after_either, after_with, after_while, first_printed, simple_printed, if_adds, either_adds, with_adds, while_adds}
use Rattle.syntax_print.proofs.write_statement.+write.Goals as goal

pub write_branches-write_statements-requires : goal.write_branches-write_statements-requires
write_branches-write_statements-requires t c =
    let bs = c.args.list.now in
    let b = c.index-list-i.result in
    let one = past_at (λ (b : Vec Stmt Global). past_statements b.items) bs c.loop-i.i b c.index-list-i.is c.loop-i-test.true in
    let less = past_at (λ (b : Vec Stmt Global). heights b.items) bs c.loop-i.i b c.index-list-i.is c.loop-i-test.true in
    (omega (arith, less, ap heights c.deref.ensures.value, c.decreases), omega (arith, one, ap past_statements c.deref.ensures.value, c.requires))

pub write_branches-loop-i-preserved : goal.write_branches-loop-i-preserved
write_branches-loop-i-preserved t c =
    branch_more (syntax_of c.args.syntax) c.args.pool.now c.args.k c.args.labels.now c.args.into.now c.loop-i.into c.write_statements.new.into c.args.list.now c.loop-i.i c.index-list-i.result c.write_branch_line.new.into c.index-list-i.is c.loop-i-test.true c.loop-i.invariant c.in_ok-write_branch_line.ensures
    (rewritten (syntax_of c.args.syntax) c.args.pool.now c.args.k c.in_ok-deeper.field-0 c.write_branch_line.new.into c.write_statements.new.into c.deref.result.now c.index-list-i.result.items c.in_ok-deeper.ensures c.deref.ensures.value c.in_ok-write_statements.ensures)

pub write_statements-write_stmt-requires : goal.write_statements-write_stmt-requires
write_statements-write_stmt-requires t c =
    let ss = c.args.stmts.now in
    let s = c.stmt-item.result in
    let one = past_at past_stmt ss c.loop-stmt.stmt-index s c.stmt-item.is c.loop-stmt-test.true in
    let less = past_at height ss c.loop-stmt.stmt-index s c.stmt-item.is c.loop-stmt-test.true in
    (omega (arith, less, c.decreases), omega (arith, one, c.requires))

pub write_statements-loop-stmt-preserved : goal.write_statements-loop-stmt-preserved
write_statements-loop-stmt-preserved t c =
    statement_more (syntax_of c.args.syntax) c.args.pool.now c.args.k c.args.into.now c.loop-stmt.into c.write_stmt.new.into c.args.stmts.now c.loop-stmt.stmt-index c.stmt-item.result c.loop-stmt.labels c.in_ok-labels.labels c.stmt-item.is c.loop-stmt-test.true c.loop-stmt.invariant
    (subst (λ (w : Text). AddsFirst c.loop-stmt.into c.write_stmt.new.into (syntax_of c.args.syntax) c.args.k w (labels_after c.stmt-item.result w) (stmt_at c.args.pool.now c.stmt-item.result)) c.bytes.ensures c.in_ok-write_stmt.ensures)
    c.in_ok-labels.ensures

pub write_statements-returns : goal.write_statements-returns
write_statements-returns t c = no_more (syntax_of c.args.syntax) c.args.pool.now c.args.k c.args.into.now c.loop-stmt.into c.args.stmts.now c.loop-stmt.stmt-index c.loop-stmt.labels c.loop-stmt-test.false c.loop-stmt.invariant

pub write_otherwise-returns : goal.write_otherwise-returns
write_otherwise-returns t c =
    on_ok c.write_statements.result _ _ (λ a. otherwise_adds (syntax_of c.args.syntax) c.args.pool.now c.args.k c.args.into.now c.write_middle_line.new.into c.write_statements.new.into c.args.stmts.now (not_empty c.args.stmts.now c.is_empty.result c.is_empty.ensures c.if-is_empty.false) c.in_ok-write_middle_line.ensures
    (rewritten (syntax_of c.args.syntax) c.args.pool.now c.args.k c.in_ok-deeper.field-0 c.write_middle_line.new.into c.write_statements.new.into c.args.stmts.now c.args.stmts.now c.in_ok-deeper.ensures refl a)) c.write_statements.ensures

pub write_stmt-write_branches-requires : goal.write_stmt-write_branches-requires
write_stmt-write_branches-requires t c =
    let items = c.deref-in-Either.ensures.value in (
      omega (arith, either_height c.in-Either.field-0 c.in-Either.list, ap branch_heights items, ap height c.in-Either.is, c.decreases),
      omega (arith, past_either c.in-Either.field-0 c.in-Either.list, ap past_branches items, ap past_stmt c.in-Either.is, c.requires),
    )

pub write_stmt-returns-in_ok-begin_line-in-Simple : goal.write_stmt-returns-in_ok-begin_line-in-Simple
write_stmt-returns-in_ok-begin_line-in-Simple t c =
    let s = syntax_of c.args.syntax in
    let ts = c.args.pool.now in
    let k = c.args.k in
    let w = c.args.labels.now in
    let old = c.args.into.now in
    on_ok c.write_simple.result _ _ (λ (a : _).
    subst (λ (x : Stmt). AddsFirst old c.write_simple.new.into s k w (labels_after x w) (stmt_at ts x)) (sym c.in-Simple.is)
    (first_printed s ts k w old c.write_simple.new.into _ (span_of c.in-Simple.field-0) (simple_at ts c.in-Simple.simple) (after_simple w c.in-Simple.field-0 c.in-Simple.simple) (simple_in_list_at ts c.in-Simple.field-0 c.in-Simple.simple) (simple_printed s k w old c.begin_line.new.into c.write_simple.new.into ts c.in-Simple.simple c.in_ok-begin_line-in-Simple.ensures a))) c.write_simple.ensures

pub write_stmt-returns-in_ok-write_otherwise-in-If : goal.write_stmt-returns-in_ok-write_otherwise-in-If
write_stmt-returns-in_ok-write_otherwise-in-If t c =
    let s = syntax_of c.args.syntax in
    let ts = c.args.pool.now in
    let k = c.args.k in
    let w = c.args.labels.now in
    let old = c.args.into.now in
    on_ok c.write_end.result _ _ (λ (a : _).
    subst (λ (x : Stmt). AddsFirst old c.write_end.new.into s k w (labels_after x w) (stmt_at ts x)) (sym c.in-If.is)
    (first_printed s ts k w old c.write_end.new.into _ (span_of c.in-If.field-0) (branch (at ts c.in-If.e) (statements_at ts c.in-If.then.items) (statements_at ts c.in-If.otherwise.items)) (after_if w c.in-If.field-0 c.in-If.e c.in-If.then c.in-If.otherwise) (if_at ts c.in-If.field-0 c.in-If.e c.in-If.then c.in-If.otherwise) (if_adds s k w old c.begin_line-in-If.new.into c.write_tested.new.into c.write_statements.new.into c.write_otherwise.new.into c.write_end.new.into (statements_at ts c.in-If.then.items) (statements_at ts c.in-If.otherwise.items) (at ts c.in-If.e)
    c.in_ok-begin_line-in-If.ensures c.in_ok-write_tested-in-If.ensures
    (rewritten s ts k c.in_ok-deeper-in-If.field-0 c.write_tested.new.into c.write_statements.new.into c.deref.result.now c.in-If.then.items c.in_ok-deeper-in-If.ensures c.deref.ensures.value c.in_ok-write_statements-in-If.ensures)
    (subst (λ (ys : List Stmt). Adds c.write_statements.new.into c.write_otherwise.new.into (otherwise s k (statements_at ts ys))) c.deref-in-If.ensures.value c.in_ok-write_otherwise-in-If.ensures) a))) c.write_end.ensures

pub write_stmt-returns-in_ok-write_branches-in-Either : goal.write_stmt-returns-in_ok-write_branches-in-Either
write_stmt-returns-in_ok-write_branches-in-Either t c =
    let s = syntax_of c.args.syntax in
    let ts = c.args.pool.now in
    let k = c.args.k in
    let w = c.args.labels.now in
    let old = c.args.into.now in
    on_ok c.write_end-in-Either.result _ _ (λ (a : _).
    subst (λ (x : Stmt). AddsFirst old c.write_end-in-Either.new.into s k w (labels_after x w) (stmt_at ts x)) (sym c.in-Either.is)
    (first_printed s ts k w old c.write_end-in-Either.new.into _ (span_of c.in-Either.field-0) (either (branches_at ts c.in-Either.list.items)) (after_either w c.in-Either.field-0 c.in-Either.list) (either_at ts c.in-Either.field-0 c.in-Either.list) (either_adds s k w old c.write_branches.new.into c.write_end-in-Either.new.into (branches_at ts c.in-Either.list.items)
    (subst (λ (ys : List (Vec Stmt Global)). Adds old c.write_branches.new.into (branches s k (w ++ opening s (codes "either")) (branches_at ts ys))) c.deref-in-Either.ensures.value c.in_ok-write_branches-in-Either.ensures) a))) c.write_end-in-Either.ensures

pub write_stmt-returns-in_ok-write_statements-in-With : goal.write_stmt-returns-in_ok-write_statements-in-With
write_stmt-returns-in_ok-write_statements-in-With t c =
    let s = syntax_of c.args.syntax in
    let ts = c.args.pool.now in
    let k = c.args.k in
    let w = c.args.labels.now in
    let old = c.args.into.now in
    on_ok c.write_end-in-With.result _ _ (λ (a : _).
    subst (λ (x : Stmt). AddsFirst old c.write_end-in-With.new.into s k w (labels_after x w) (stmt_at ts x)) (sym c.in-With.is)
    (first_printed s ts k w old c.write_end-in-With.new.into _ (span_of c.in-With.field-0) (with (binds_at ts c.in-With.binds.items) (statements_at ts c.in-With.body.items)) (after_with w c.in-With.field-0 c.in-With.binds c.in-With.body) (with_at ts c.in-With.field-0 c.in-With.binds c.in-With.body) (with_adds s k w old c.begin_line-in-With.new.into c.write_with.new.into c.write_statements-in-With.new.into c.write_end-in-With.new.into (binds_at ts c.in-With.binds.items) (statements_at ts c.in-With.body.items)
    c.in_ok-begin_line-in-With.ensures
    (subst (λ (ys : List Bind). c.write_with.new.into ≡ c.begin_line-in-With.new.into ++ head s (codes "with") (listed (binds_texts (binds_at ts ys))) (codes "do")) c.deref-in-With.ensures.value c.in_ok-write_with-in-With.ensures)
    (rewritten s ts k c.in_ok-deeper-in-With.field-0 c.write_with.new.into c.write_statements-in-With.new.into c.deref-in-With-2.result.now c.in-With.body.items c.in_ok-deeper-in-With.ensures c.deref-in-With-2.ensures.value c.in_ok-write_statements-in-With.ensures) a))) c.write_end-in-With.ensures

pub write_stmt-returns-in_ok-write_statements-in-While : goal.write_stmt-returns-in_ok-write_statements-in-While
write_stmt-returns-in_ok-write_statements-in-While t c =
    let s = syntax_of c.args.syntax in
    let ts = c.args.pool.now in
    let k = c.args.k in
    let w = c.args.labels.now in
    let old = c.args.into.now in
    on_ok c.write_end-in-While.result _ _ (λ (a : _).
    subst (λ (x : Stmt). AddsFirst old c.write_end-in-While.new.into s k w (labels_after x w) (stmt_at ts x)) (sym c.in-While.is)
    (first_printed s ts k w old c.write_end-in-While.new.into _ (span_of c.in-While.field-0) (while (at ts c.in-While.e) (statements_at ts c.in-While.body.items)) (after_while w c.in-While.field-0 c.in-While.e c.in-While.body) (while_at ts c.in-While.field-0 c.in-While.e c.in-While.body) (while_adds s k w old c.begin_line-in-While.new.into c.write_tested-in-While.new.into c.write_statements-in-While.new.into c.write_end-in-While.new.into (at ts c.in-While.e) (statements_at ts c.in-While.body.items)
    c.in_ok-begin_line-in-While.ensures c.in_ok-write_tested-in-While.ensures
    (rewritten s ts k c.in_ok-deeper-in-While.field-0 c.write_tested-in-While.new.into c.write_statements-in-While.new.into c.deref-in-While.result.now c.in-While.body.items c.in_ok-deeper-in-While.ensures c.deref-in-While.ensures.value c.in_ok-write_statements-in-While.ensures) a))) c.write_end-in-While.ensures
