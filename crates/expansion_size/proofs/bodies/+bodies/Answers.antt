-- Proves what is asked of the functions that go through statements.
use Rattle.std.proofs.Common.{◌≡◌, List, Vec, Global, length, sym, ap, ◌∙◌, arith}
use Rattle.tla_tree.specs.Pool.{at, trees_at}
use Rattle.tla_tree.proofs.PoolNumbers.{past_at}
use Rattle.pcal_tree.specs.declared.algorithm.Simple.{Simple}
use Rattle.pcal_tree.specs.declared.algorithm.Stmt.{Stmt}
use Rattle.pcal_tree.specs.InMemory.{assignments_at, binds_at, simple_at, stmt_at, statements_at, branches_at, past_stmt, past_statements, past_branches, past_macro}
use Rattle.pcal_tree.proofs.InMemoryEach.{past_either}
use Rattle.pcal_tree.proofs.StatementHeights.{height, heights, branch_heights, either_height}
use Rattle.macro_expand.specs.Measured.{of_trees, of_assignments, of_binds}
use Rattle.expansion_size.specs.Budget.{inside, budget}
use Rattle.expansion_size.specs.FramesIn.{put_by, newest_first, after_one, after_all, after_some}
use Rattle.expansion_size.proofs.FrameLaws.{past_called}
use Rattle.expansion_size.proofs.MacroLaws.{less_work, fewer_past}
use Rattle.expansion_size.proofs.StayLaws.{calls_stay}
use Rattle.expansion_size.proofs.BodyLaws.{if_left, either_left, with_left, while_left}
use Rattle.expansion_size.proofs.bodies.+bodies.Goals as goal

pub branches-statements-so_far-requires : goal.branches-statements-so_far-requires
branches-statements-so_far-requires t c =
    let less = past_at (λ (b : Vec Stmt Global). heights b.items) c.args.list.now c.loop-i.i c.index-list-i.result c.index-list-i.is c.loop-i-test.true in
    let past = past_at (λ (b : Vec Stmt Global). past_statements b.items) c.args.list.now c.loop-i.i c.index-list-i.result c.index-list-i.is c.loop-i-test.true in
    (omega (arith, less, ap heights c.deref.ensures.value, c.decreases), (omega (arith, past, ap past_statements c.deref.ensures.value, c.requires.there), (c.requires.called, c.requires.inner)))

pub statements-stmt-so_far-requires : goal.statements-stmt-so_far-requires
statements-stmt-so_far-requires t c =
    let less = past_at height c.args.stmts.now c.loop-one.one-index c.one-item.result c.one-item.is c.loop-one-test.true in
    let past = past_at past_stmt c.args.stmts.now c.loop-one.one-index c.one-item.result c.one-item.is c.loop-one-test.true in
    (omega (arith, less, c.decreases), (omega (arith, past, c.requires.there), (c.requires.called, c.requires.inner)))

pub stmt-branches-requires : goal.stmt-branches-requires
stmt-branches-requires t c = (
  omega (arith, either_height c.in-Either.field-0 c.in-Either.list, ap branch_heights c.deref-in-Either.ensures.value, ap height c.in-Either.is, c.decreases),
  (
    omega (arith, past_either c.in-Either.field-0 c.in-Either.list, ap past_branches c.deref-in-Either.ensures.value, ap past_stmt c.in-Either.is, c.requires.there),
    (c.requires.called, c.requires.inner),
  ),
)

pub simple-returns-in-Assign : goal.simple-returns-in-Assign
simple-returns-in-Assign t c =
    let ts = c.args.pool.now in
    c.assignments.ensures c.args.depth
    ∙ (λ z. of_assignments (budget (put_by ts c.args.frames.now)) (assignments_at ts (c.deref.ensures.value z)) c.args.depth (c.with_nodes.ensures z))
    ∙ ap (λ (s : Simple). after_one ts c.args.macros.now c.args.frames.now (simple_at ts s) c.args.depth c.args.left) (sym c.in-Assign.is)

pub simple-returns-in-Await : goal.simple-returns-in-Await
simple-returns-in-Await t c =
    let ts = c.args.pool.now in
    c.whole.ensures c.args.depth
    ∙ ap ((budget (put_by ts c.args.frames.now)).expression (at ts c.in-Await.e) c.args.depth) c.with_nodes-in-Await.ensures
    ∙ ap (λ (s : Simple). after_one ts c.args.macros.now c.args.frames.now (simple_at ts s) c.args.depth c.args.left) (sym c.in-Await.is)

pub simple-returns-in-Print : goal.simple-returns-in-Print
simple-returns-in-Print t c =
    let ts = c.args.pool.now in
    c.whole-in-Print.ensures c.args.depth
    ∙ ap ((budget (put_by ts c.args.frames.now)).expression (at ts c.in-Print.e) c.args.depth) c.with_nodes-in-Print.ensures
    ∙ ap (λ (s : Simple). after_one ts c.args.macros.now c.args.frames.now (simple_at ts s) c.args.depth c.args.left) (sym c.in-Print.is)

pub simple-returns-in-Assert : goal.simple-returns-in-Assert
simple-returns-in-Assert t c =
    let ts = c.args.pool.now in
    c.whole-in-Assert.ensures c.args.depth
    ∙ ap ((budget (put_by ts c.args.frames.now)).expression (at ts c.in-Assert.e) c.args.depth) c.with_nodes-in-Assert.ensures
    ∙ ap (λ (s : Simple). after_one ts c.args.macros.now c.args.frames.now (simple_at ts s) c.args.depth c.args.left) (sym c.in-Assert.is)

pub simple-returns-in-Call : goal.simple-returns-in-Call
simple-returns-in-Call t c =
    let ts = c.args.pool.now in
    c.expressions.ensures c.args.depth
    ∙ (λ z. of_trees (budget (put_by ts c.args.frames.now)) (trees_at ts (c.deref-in-Call.ensures.value z)) c.args.depth (c.with_nodes-in-Call.ensures z))
    ∙ ap (λ (s : Simple). after_one ts c.args.macros.now c.args.frames.now (simple_at ts s) c.args.depth c.args.left) (sym c.in-Call.is)

pub call-returns-then-left-eq0 : goal.call-returns-then-left-eq0
call-returns-then-left-eq0 t c =
    let ts = c.args.pool.now in sym (calls_stay c.args.left c.if-left-eq0.true (newest_first ts c.args.macros.now) (put_by ts c.args.frames.now) c.args.name.now (trees_at ts c.args.arguments.now) c.args.depth)

pub call-statements-requires : goal.call-statements-requires
call-statements-requires t c =
    let ms = c.args.macros.now in
    let i = c.in-Some.i in
    let o = c.index-macros-i.result in
    let less = less_work ms i o c.index-macros-i.is c.in-Some.ensures.within in
    let past = past_at past_macro ms i o c.index-macros-i.is c.in-Some.ensures.within in
    let fewer = fewer_past ms i in (
      omega (arith, less, ap heights c.deref-in-Some.ensures.value, c.decreases),
      (
        omega (arith, past, ap past_statements c.deref-in-Some.ensures.value, c.requires.called),
        (omega (arith, fewer, c.requires.called), past_called _ _ _ _ c.requires.there c.requires.inner),
      ),
    )

pub call-returns-in-None : goal.call-returns-in-None
call-returns-in-None t c =
    let ts = c.args.pool.now in
    let g = put_by ts c.args.frames.now in
    let us = trees_at ts c.args.arguments.now in
    c.unknown.ensures g c.args.name.now us ∙ (λ z. c.in-None.ensures.none ts g us z c.args.depth c.args.left)

pub stmt-returns-in-If : goal.stmt-returns-in-If
stmt-returns-in-If t c = λ rest.
    let ts = c.args.pool.now in
    let ms = c.args.macros.now in
    let f = c.args.frames.now in
    let d = c.args.depth in
    if_left ts ms f d c.in-If.field-0 c.in-If.e c.in-If.then c.in-If.otherwise rest c.args.left c.whole-tested.result c.inside-first.result c.inside.result
    (c.whole-tested.ensures d ∙ ap ((budget (put_by ts f)).expression (at ts c.in-If.e) d) c.with_nodes.ensures)
    (c.inside-first.ensures ∙ ap (λ (ss : List Stmt). inside 1 (after_all ts ms f (statements_at ts ss)) d c.whole-tested.result) c.deref.ensures.value)
    (c.inside.ensures ∙ ap (λ (ss : List Stmt). inside 1 (after_all ts ms f (statements_at ts ss)) d c.inside-first.result) c.deref-in-If.ensures.value)
    ∙ ap (λ (s : Stmt). after_all ts ms f (stmt_at ts s rest) d c.args.left) (sym c.in-If.is)

pub stmt-returns-in-Either : goal.stmt-returns-in-Either
stmt-returns-in-Either t c = λ rest.
    let ts = c.args.pool.now in
    let ms = c.args.macros.now in
    let f = c.args.frames.now in
    let d = c.args.depth in
    either_left ts ms f d c.in-Either.field-0 c.in-Either.list rest c.args.left c.branches.result
    (c.branches.ensures ∙ (λ z. inside 1 (after_some ts ms f (branches_at ts (c.deref-in-Either.ensures.value z))) d (c.with_nodes-in-Either.ensures z)))
    ∙ ap (λ (s : Stmt). after_all ts ms f (stmt_at ts s rest) d c.args.left) (sym c.in-Either.is)

pub stmt-returns-in-With : goal.stmt-returns-in-With
stmt-returns-in-With t c = λ rest.
    let ts = c.args.pool.now in
    let ms = c.args.macros.now in
    let f = c.args.frames.now in
    let d = c.args.depth in
    let many : c.len.result ≡ length c.in-With.list.items = omega (arith, c.len.ensures, c.in-With.list.ok) in
    with_left ts ms f d c.in-With.field-0 c.in-With.list c.in-With.body rest c.args.left c.binds-bound.result c.inside-in-With.result
    (c.binds-bound.ensures d ∙ (λ z. of_binds (budget (put_by ts f)) (binds_at ts (c.deref-in-With.ensures.value z)) d (c.with_nodes-in-With.ensures z)))
    (c.inside-in-With.ensures ∙ (λ z. inside (many z) (after_all ts ms f (statements_at ts (c.deref-in-With-2.ensures.value z))) d c.binds-bound.result))
    ∙ ap (λ (s : Stmt). after_all ts ms f (stmt_at ts s rest) d c.args.left) (sym c.in-With.is)

pub stmt-returns-in-While : goal.stmt-returns-in-While
stmt-returns-in-While t c = λ rest.
    let ts = c.args.pool.now in
    let ms = c.args.macros.now in
    let f = c.args.frames.now in
    let d = c.args.depth in
    while_left ts ms f d c.in-While.field-0 c.in-While.e c.in-While.body rest c.args.left c.whole-tested-in-While.result c.inside-in-While.result
    (c.whole-tested-in-While.ensures d ∙ ap ((budget (put_by ts f)).expression (at ts c.in-While.e) d) c.with_nodes-in-While.ensures)
    (c.inside-in-While.ensures ∙ ap (λ (ss : List Stmt). inside 1 (after_all ts ms f (statements_at ts ss)) d c.whole-tested-in-While.result) c.deref-in-While.ensures.value)
    ∙ ap (λ (s : Stmt). after_all ts ms f (stmt_at ts s rest) d c.args.left) (sym c.in-While.is)
