-- Proves what is asked of the functions that go through statements.
use Rattle.std.proofs.Common.{List, Vec, Global, ap, subst, ◌∙◌, arith, ◌≡◌}
use Rattle.tla_tree.proofs.PoolNumbers.{Keeps-then, past_at}
use Rattle.pcal_tree.specs.declared.algorithm.Bind.{Bind}
use Rattle.pcal_tree.specs.declared.algorithm.Stmt.{Stmt}
use Rattle.pcal_tree.specs.Algorithm.{or}
use Rattle.pcal_tree.specs.InMemory.{binds_at, stmt_at, branches_at, past_stmt, past_statements, past_branches}
use Rattle.pcal_tree.specs.Expand.{graft_binds, graft_some}
use Rattle.pcal_tree.proofs.InMemoryEach.{past_if, past_either, past_with, past_while}
use Rattle.pcal_tree.proofs.InMemoryGrown.{binds_at-kept}
use Rattle.pcal_tree.proofs.StatementHeights.{height, heights, branch_heights, either_height}
use Rattle.running.specs.Prepared.{names_put, own_put}
use Rattle.running.proofs.MadeOnto.{made_more, made_all}
use Rattle.running.proofs.Members.{all_twice, some_twice, past_branch, branch_before, stmts_grow, branches_grow, stmts_made, branches_made}
use Rattle.running.proofs.EachKind.{if_made, either_made, with_made, while_made, made_is, keeps_all, stmts_from}
use Rattle.running.proofs.statements.+statements.Goals as goal

pub stmt-branches-requires : goal.stmt-branches-requires
stmt-branches-requires t c = (
  omega (arith, either_height c.in-Either.span c.in-Either.list, ap branch_heights c.deref-in-Either.ensures.value, ap height c.in-Either.is, c.decreases),
  omega (arith, past_either c.in-Either.span c.in-Either.list, ap past_branches c.deref-in-Either.ensures.value, ap past_stmt c.in-Either.is, c.requires),
)

pub stmt-returns-in_ok-second-in-If-clause-made : goal.stmt-returns-in_ok-second-in-If-clause-made
stmt-returns-in_ok-second-in-If-clause-made t c =
    let p = c.args.pool.now in
    let q = c.expression.new.pool in
    let r = c.prepared_statements.new.pool in
    let z = c.prepared_statements-in-If.new.pool in
    let h = own_put c.args.places.now.own in
    let g = names_put c.args.places.now.local in
    let o = c.in-If in
    let test = c.in_ok-test-in-If.ensures in
    let first = c.in_ok-first-in-If.ensures in
    let second = c.in_ok-second-in-If.ensures in
    let far = Keeps-then q r z first.kept second.kept in
    made_is h g p z _ _ _ o.is
    (if_made h g p z o.span o.e c.in_ok-test-in-If.test o.then o.otherwise c.in_ok-first-in-If.first c.in_ok-second-in-If.second
    (far.same c.in_ok-test-in-If.test test.within ∙ test.tree)
    (stmts_from h g p q r z test.kept second.kept o.then.items _ c.in_ok-first-in-If.first.items c.deref.ensures.value (omega (arith, past_if o.span o.e o.then o.otherwise, ap past_stmt o.is, c.requires)) first.within first.tree)
    (stmts_from h g p r z z (Keeps-then p q r test.kept first.kept) (keeps_all z) o.otherwise.items _ c.in_ok-second-in-If.second.items c.deref-in-If.ensures.value
    (omega (arith, past_if o.span o.e o.then o.otherwise, ap past_stmt o.is, c.requires)) second.within second.tree))

pub stmt-returns-in_ok-second-in-If-clause-within : goal.stmt-returns-in_ok-second-in-If-clause-within
stmt-returns-in_ok-second-in-If-clause-within t c =
    let past = past_if c.in-If.span c.in_ok-test-in-If.test c.in_ok-first-in-If.first c.in_ok-second-in-If.second in
    let first = c.in_ok-first-in-If.ensures in
    let second = c.in_ok-second-in-If.ensures in
    omega (arith, past, c.in_ok-test-in-If.ensures.within, first.kept.longer, first.within, second.kept.longer, second.within)

pub stmt-returns-in_ok-rows-in-Either-clause-made : goal.stmt-returns-in_ok-rows-in-Either-clause-made
stmt-returns-in_ok-rows-in-Either-clause-made t c =
    let p = c.args.pool.now in
    let z = c.branches.new.pool in
    let h = own_put c.args.places.now.own in
    let g = names_put c.args.places.now.local in
    let o = c.in-Either in
    let rows = c.in_ok-rows-in-Either.ensures in
    made_is h g p z _ _ _ o.is
    (either_made h g p z o.span o.list c.in_ok-rows-in-Either.rows
    (subst (λ (l : List (Vec Stmt Global)). branches_at z c.in_ok-rows-in-Either.rows.items ≡ graft_some h (graft_some g (branches_at p l))) c.deref-in-Either.ensures.value rows.made))

pub stmt-returns-in_ok-rows-in-Either-clause-within : goal.stmt-returns-in_ok-rows-in-Either-clause-within
stmt-returns-in_ok-rows-in-Either-clause-within t c = let past = past_either c.in-Either.span c.in_ok-rows-in-Either.rows in omega (arith, past, c.in_ok-rows-in-Either.ensures.within)

pub stmt-returns-in_ok-inner-in-With-clause-made : goal.stmt-returns-in_ok-inner-in-With-clause-made
stmt-returns-in_ok-inner-in-With-clause-made t c =
    let p = c.args.pool.now in
    let q = c.binds.new.pool in
    let z = c.prepared_statements-in-With.new.pool in
    let h = own_put c.args.places.now.own in
    let g = names_put c.args.places.now.local in
    let o = c.in-With in
    let bound = c.in_ok-bound-in-With.ensures in
    let inner = c.in_ok-inner-in-With.ensures in
    made_is h g p z _ _ _ o.is
    (with_made h g p z o.span o.list c.in_ok-bound-in-With.bound o.stmts c.in_ok-inner-in-With.inner
    (binds_at-kept q z inner.kept c.in_ok-bound-in-With.bound.items bound.within ∙ bound.made ∙ ap (λ (l : List Bind). graft_binds h (graft_binds g (binds_at p l))) c.deref-in-With.ensures.value)
    (stmts_from h g p q z z bound.kept (keeps_all z) o.stmts.items _ c.in_ok-inner-in-With.inner.items c.deref-in-With-2.ensures.value (omega (arith, past_with o.span o.list o.stmts, ap past_stmt o.is, c.requires)) inner.within inner.tree))

pub stmt-returns-in_ok-inner-in-With-clause-within : goal.stmt-returns-in_ok-inner-in-With-clause-within
stmt-returns-in_ok-inner-in-With-clause-within t c =
    let past = past_with c.in-With.span c.in_ok-bound-in-With.bound c.in_ok-inner-in-With.inner in
    let inner = c.in_ok-inner-in-With.ensures in
    omega (arith, past, c.in_ok-bound-in-With.ensures.within, inner.kept.longer, inner.within)

pub stmt-returns-in_ok-inner-in-While-clause-made : goal.stmt-returns-in_ok-inner-in-While-clause-made
stmt-returns-in_ok-inner-in-While-clause-made t c =
    let p = c.args.pool.now in
    let q = c.expression-in-While.new.pool in
    let z = c.prepared_statements-in-While.new.pool in
    let h = own_put c.args.places.now.own in
    let g = names_put c.args.places.now.local in
    let o = c.in-While in
    let test = c.in_ok-test-in-While.ensures in
    let inner = c.in_ok-inner-in-While.ensures in
    made_is h g p z _ _ _ o.is
    (while_made h g p z o.span o.e c.in_ok-test-in-While.test o.stmts c.in_ok-inner-in-While.inner
    (inner.kept.same c.in_ok-test-in-While.test test.within ∙ test.tree)
    (stmts_from h g p q z z test.kept (keeps_all z) o.stmts.items _ c.in_ok-inner-in-While.inner.items c.deref-in-While.ensures.value (omega (arith, past_while o.span o.e o.stmts, ap past_stmt o.is, c.requires)) inner.within inner.tree))

pub stmt-returns-in_ok-inner-in-While-clause-within : goal.stmt-returns-in_ok-inner-in-While-clause-within
stmt-returns-in_ok-inner-in-While-clause-within t c =
    let past = past_while c.in-While.span c.in_ok-test-in-While.test c.in_ok-inner-in-While.inner in
    let inner = c.in_ok-inner-in-While.ensures in
    omega (arith, past, c.in_ok-test-in-While.ensures.within, inner.kept.longer, inner.within)

pub branches-prepared_statements-requires : goal.branches-prepared_statements-requires
branches-prepared_statements-requires t c =
    let less = past_at (λ (b : Vec Stmt Global). heights b.items) c.args.list.now c.loop-i.i c.index-list-i.result c.index-list-i.is c.loop-i-test.true in
    let past = past_at past_branch c.args.list.now c.loop-i.i c.index-list-i.result c.index-list-i.is c.loop-i-test.true in (
      omega (arith, less, ap heights c.deref.ensures.value, c.decreases),
      omega (arith, past, ap past_statements c.deref.ensures.value, c.requires, c.loop-i.invariant.0.longer),
    )

pub branches-loop-i-preserved : goal.branches-loop-i-preserved
branches-loop-i-preserved t c =
    let o = c.index-list-i.result in
    let past = past_at past_branch c.args.list.now c.loop-i.i o c.index-list-i.is c.loop-i-test.true in
    let old = c.args.pool.now in
    let ts = c.loop-i.pool in
    let us = c.prepared_statements.new.pool in
    let h = own_put c.args.places.now.own in
    let g = names_put c.args.places.now.local in
    let said = c.in_ok-prepared_statements.ensures in
    let kept = c.loop-i.invariant.0 in
    let same = stmts_from h g old ts us us kept (keeps_all us) o.items _ c.in_ok-prepared_statements.field-0.items c.deref.ensures.value (omega (arith, past, c.requires)) said.within said.tree in (
      Keeps-then _ _ _ kept said.kept,
      made_more past_branch branch_before (some_twice h g) branches_grow old ts us said.kept c.loop-i.rows.items c.args.list.now c.loop-i.i o c.in_ok-prepared_statements.field-0 c.loop-i.invariant.1 c.index-list-i.is c.loop-i-test.true
          said.within (λ bs j. or (same j) (some_twice h g bs)) c.push.new.self.items c.in_ok-push.ensures.items,
    )

pub branches-returns-clause-made : goal.branches-returns-clause-made
branches-returns-clause-made t c =
    let old = c.args.pool.now in
    let h = own_put c.args.places.now.own in
    let g = names_put c.args.places.now.local in
    branches_made h g old c.loop-i.pool c.loop-i.rows.items c.args.list.now (made_all past_branch branch_before (some_twice h g) old c.loop-i.pool c.loop-i.rows.items c.args.list.now c.loop-i.i c.loop-i-test.false c.loop-i.invariant.1)

pub prepared_statements-stmt-requires : goal.prepared_statements-stmt-requires
prepared_statements-stmt-requires t c =
    let less = past_at height c.args.list.now c.loop-one.one-index c.one-item.result c.one-item.is c.loop-one-test.true in
    let past = past_at past_stmt c.args.list.now c.loop-one.one-index c.one-item.result c.one-item.is c.loop-one-test.true in
    (omega (arith, less, c.decreases), omega (arith, past, c.requires, c.loop-one.invariant.0.longer))

pub prepared_statements-loop-one-preserved : goal.prepared_statements-loop-one-preserved
prepared_statements-loop-one-preserved t c =
    let o = c.one-item.result in
    let past = past_at past_stmt c.args.list.now c.loop-one.one-index o c.one-item.is c.loop-one-test.true in
    let old = c.args.pool.now in
    let ts = c.loop-one.pool in
    let us = c.stmt.new.pool in
    let h = own_put c.args.places.now.own in
    let g = names_put c.args.places.now.local in
    let said = c.in_ok-stmt.ensures in
    let kept = c.loop-one.invariant.0 in (
      Keeps-then _ _ _ kept said.kept,
      made_more past_stmt stmt_at (all_twice h g) stmts_grow old ts us said.kept c.loop-one.made.items c.args.list.now c.loop-one.one-index o c.in_ok-stmt.field-0 c.loop-one.invariant.1 c.one-item.is c.loop-one-test.true said.within
          (λ rest. said.made rest ∙ (λ j. all_twice h g (stmts_grow old ts kept o (omega (arith, past, c.requires)) j rest))) c.push.new.self.items c.in_ok-push.ensures.items,
    )

pub prepared_statements-returns-clause-tree : goal.prepared_statements-returns-clause-tree
prepared_statements-returns-clause-tree t c =
    let old = c.args.pool.now in
    let h = own_put c.args.places.now.own in
    let g = names_put c.args.places.now.local in
    stmts_made h g old c.loop-one.pool c.loop-one.made.items c.args.list.now (made_all past_stmt stmt_at (all_twice h g) old c.loop-one.pool c.loop-one.made.items c.args.list.now c.loop-one.one-index c.loop-one-test.false c.loop-one.invariant.1)
