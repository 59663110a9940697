-- Proves what is asked of the functions that go through statements.
use Rattle.std.proofs.Common.{List, [], ◌∷◌, take, OnOk, Vec, Global, sym, ap, subst, ◌∙◌, arith}
use Rattle.tla_tree.specs.Pool.{trees_at}
use Rattle.tla_tree.proofs.PoolNumbers.{Keeps-then, past_at}
use Rattle.pcal_tree.specs.declared.algorithm.Bind.{Bind}
use Rattle.pcal_tree.specs.declared.algorithm.Stmt.{Stmt}
use Rattle.pcal_tree.specs.Algorithm.{Statements, done}
use Rattle.pcal_tree.specs.InMemory.{span_of, binds_at, past_stmt, past_statements, past_branches, past_macro}
use Rattle.pcal_tree.specs.Expand.{followed_by, graft_binds, graft_all, written_out}
use Rattle.pcal_tree.proofs.InMemoryEach.{past_if, past_either, past_with, past_while}
use Rattle.pcal_tree.proofs.StatementHeights.{height, heights, branch_heights, either_height}
use Rattle.expansion_size.specs.FramesIn.{newest_first, put_by}
use Rattle.expansion_size.proofs.MacroLaws.{less_work, fewer_past}
use Rattle.macro_arguments.specs.Expressions.{StandBinds}
use Rattle.expansion.specs.Written.{written, written_some, Stand, StandSome}
use Rattle.expansion_size.proofs.FrameLaws.{past_called}
use Rattle.macro_arguments.proofs.Lists.{made_more, made_all}
use Rattle.expansion.proofs.BodyLaws.{past_branch, branch_at, branch_put, branches_grow, branches_made, stand_none, keeps_all, first_written, all_written, stand_from, stand_pushed, written_kept, next_written, call_written, if_made, either_made, with_made, while_made, binds_stand, inside_is, no_macro_made, call_is}
use Rattle.expansion.proofs.bodies.+bodies.Goals as goal

pub body-returns-clause-made : goal.body-returns-clause-made
body-returns-clause-made t c = c.in_ok-statements.ensures.made done (stand_none _ _ c.new-out.ensures.items)

pub branches-body-requires : goal.branches-body-requires
branches-body-requires t c =
    let less = past_at (λ (b : Vec Stmt Global). heights b.items) c.args.list.now c.loop-i.i c.index-list-i.result c.index-list-i.is c.loop-i-test.true in
    let past = past_at past_branch c.args.list.now c.loop-i.i c.index-list-i.result c.index-list-i.is c.loop-i-test.true in
    let kept = c.loop-i.invariant.0 in (
      omega (arith, less, ap heights c.deref.ensures.value, c.decreases),
      (omega (arith, past, ap past_statements c.deref.ensures.value, c.requires.there, kept.longer), (omega (arith, c.requires.called, kept.longer), omega (arith, c.requires.inner, kept.longer))),
    )

pub branches-loop-i-preserved : goal.branches-loop-i-preserved
branches-loop-i-preserved t c =
    let past = past_at past_branch c.args.list.now c.loop-i.i c.index-list-i.result c.index-list-i.is c.loop-i-test.true in
    let old = c.args.pool.now in
    let ms = c.args.macros.now in
    let a = c.args.frames.now in
    let said = c.in_ok-body.ensures in
    let kept = c.loop-i.invariant.0 in (
      Keeps-then _ _ _ kept said.kept,
      made_more past_branch branch_at (branch_put ms a old) branches_grow c.loop-i.pool c.body.new.pool said.kept c.loop-i.rows.items c.args.list.now c.loop-i.i c.index-list-i.result c.in_ok-body.field-0
          c.loop-i.invariant.1 c.index-list-i.is c.loop-i-test.true said.made.within
          (said.made.stand ∙ ap (written c.loop-i.pool ms a) c.deref.ensures.value ∙ written_kept old c.loop-i.pool kept ms c.requires.called a c.requires.inner c.index-list-i.result.items (omega (arith, past, c.requires.there)))
          c.push.new.self.items c.in_ok-push.ensures.items,
    )

pub branches-returns-clause-made : goal.branches-returns-clause-made
branches-returns-clause-made t c =
    let old = c.args.pool.now in
    let ms = c.args.macros.now in
    let a = c.args.frames.now in
    branches_made ms a old c.loop-i.pool c.loop-i.rows.items c.args.list.now (made_all past_branch branch_at (branch_put ms a old) c.loop-i.pool c.loop-i.rows.items c.args.list.now c.loop-i.i c.loop-i-test.false c.loop-i.invariant.1)

pub call-statements-requires : goal.call-statements-requires
call-statements-requires t c =
    let ms = c.args.macros.now in
    let i = c.in-Some.i in
    let o = c.index-macros-i.result in
    let less = less_work ms i o c.index-macros-i.is c.in-Some.ensures.within in
    let past = past_at past_macro ms i o c.index-macros-i.is c.in-Some.ensures.within in
    let fewer = fewer_past ms i in (
      omega (arith, less, ap heights c.deref-in-Some.ensures.value, c.decreases),
      (
        omega (arith, past, ap past_statements c.deref-in-Some.ensures.value, c.requires.called),
        (omega (arith, fewer, c.requires.called), past_called _ _ _ _ c.requires.there c.requires.inner),
      ),
    )

pub call-returns-in_ok-push-in-None-clause-made : goal.call-returns-in_ok-push-in-None-clause-made
call-returns-in_ok-push-in-None-clause-made t c = λ us h.
    let ts = c.args.pool.now in
    let ms = c.args.macros.now in
    let es = trees_at ts c.args.one.arguments.now in
    stand_pushed ts ts (keeps_all ts) c.args.out.now.items c.push.new.self.items _ us _ h
    (subst (Stand ts _) (ap (graft_all (put_by ts c.args.frames.now)) (c.in-None.ensures.none ts (span_of c.args.one.span) es)) (no_macro_made ts c.args.one.span c.new.result c.new.ensures.items))
    c.in_ok-push-in-None.ensures.items

pub call-returns-in-Some-clause-made : goal.call-returns-in-Some-clause-made
call-returns-in-Some-clause-made t c = λ us h.
    let ts = c.args.pool.now in
    let ms = c.args.macros.now in
    let i = c.in-Some.i in
    let o = c.index-macros-i.result in
    let es = trees_at ts c.args.one.arguments.now in
    subst (λ (v : Statements). OnOk c.statements.result (Stand c.statements.new.pool c.statements.new.out.items (followed_by us v)))
    (ap (written ts (take i ms) _) c.deref-in-Some.ensures.value
    ∙ call_written ts (take i ms) ms _ o _ _ (span_of c.args.one.span) c.args.one.name.now c.deref.ensures.value (c.in-Some.ensures.some ts (span_of c.args.one.span) es o c.index-macros-i.is))
    (c.statements.ensures.made us h)

pub inside-branches-requires : goal.inside-branches-requires
inside-branches-requires t c = (
  omega (arith, either_height c.in-Either.span c.in-Either.list, ap branch_heights c.deref-in-Either.ensures.value, ap height c.in-Either.is, c.decreases),
  (
    omega (arith, past_either c.in-Either.span c.in-Either.list, ap past_branches c.deref-in-Either.ensures.value, ap past_stmt c.in-Either.is, c.requires.there),
    (c.requires.called, c.requires.inner),
  ),
)

pub inside-returns-in_ok-second-in-If-clause-made : goal.inside-returns-in_ok-second-in-If-clause-made
inside-returns-in_ok-second-in-If-clause-made t c =
    let p = c.args.pool.now in
    let q = c.expression.new.pool in
    let r = c.body.new.pool in
    let z = c.body-in-If.new.pool in
    let ms = c.args.macros.now in
    let a = c.args.frames.now in
    let o = c.in-If in
    let test = c.in_ok-test-in-If.ensures in
    let first = c.in_ok-first-in-If.ensures in
    let second = c.in_ok-second-in-If.ensures in
    let far = Keeps-then q r z first.kept second.kept in
    inside_is p z ms a _ _ _ o.is
    (if_made p z ms a o.span o.e c.in_ok-test-in-If.test o.then o.otherwise c.in_ok-first-in-If.first c.in_ok-second-in-If.second
    (far.same c.in_ok-test-in-If.test test.within ∙ test.tree) (omega (arith, test.within, far.longer))
    (stand_from ms a p q r z test.kept second.kept c.requires.called c.requires.inner _ o.then.items _ c.deref.ensures.value (omega (arith, past_if o.span o.e o.then o.otherwise, ap past_stmt o.is, c.requires.there)) first.made)
    (stand_from ms a p r z z (Keeps-then p q r test.kept first.kept) (keeps_all z) c.requires.called c.requires.inner _ o.otherwise.items _ c.deref-in-If.ensures.value
    (omega (arith, past_if o.span o.e o.then o.otherwise, ap past_stmt o.is, c.requires.there)) second.made))

pub inside-returns-in_ok-rows-in-Either-clause-made : goal.inside-returns-in_ok-rows-in-Either-clause-made
inside-returns-in_ok-rows-in-Either-clause-made t c =
    let p = c.args.pool.now in
    let z = c.branches.new.pool in
    let ms = c.args.macros.now in
    let a = c.args.frames.now in
    let o = c.in-Either in
    inside_is p z ms a _ _ _ o.is
    (either_made p z ms a o.span o.list c.in_ok-rows-in-Either.rows
    (subst (λ (l : List (Vec Stmt Global)). StandSome z c.in_ok-rows-in-Either.rows.items (written_some p ms a l)) c.deref-in-Either.ensures.value c.in_ok-rows-in-Either.ensures.made))

pub inside-returns-in_ok-inner-in-With-clause-made : goal.inside-returns-in_ok-inner-in-With-clause-made
inside-returns-in_ok-inner-in-With-clause-made t c =
    let p = c.args.pool.now in
    let q = c.binds.new.pool in
    let z = c.body-in-With.new.pool in
    let ms = c.args.macros.now in
    let a = c.args.frames.now in
    let o = c.in-With in
    let bound = c.in_ok-bound-in-With.ensures in
    let inner = c.in_ok-inner-in-With.ensures in
    inside_is p z ms a _ _ _ o.is
    (with_made p z ms a o.span o.list c.in_ok-bound-in-With.bound o.stmts c.in_ok-inner-in-With.inner
    (binds_stand q z inner.kept c.in_ok-bound-in-With.bound.items _
    (subst (λ (l : List Bind). StandBinds q c.in_ok-bound-in-With.bound.items (graft_binds (put_by p a) (binds_at p l))) c.deref-in-With.ensures.value bound.made))
    (stand_from ms a p q z z bound.kept (keeps_all z) c.requires.called c.requires.inner _ o.stmts.items _ c.deref-in-With-2.ensures.value (omega (arith, past_with o.span o.list o.stmts, ap past_stmt o.is, c.requires.there)) inner.made))

pub inside-returns-in_ok-inner-in-While-clause-made : goal.inside-returns-in_ok-inner-in-While-clause-made
inside-returns-in_ok-inner-in-While-clause-made t c =
    let p = c.args.pool.now in
    let q = c.expression-in-While.new.pool in
    let z = c.body-in-While.new.pool in
    let ms = c.args.macros.now in
    let a = c.args.frames.now in
    let o = c.in-While in
    let test = c.in_ok-test-in-While.ensures in
    let inner = c.in_ok-inner-in-While.ensures in
    inside_is p z ms a _ _ _ o.is
    (while_made p z ms a o.span o.e c.in_ok-test-in-While.test o.stmts c.in_ok-inner-in-While.inner
    (inner.kept.same c.in_ok-test-in-While.test test.within ∙ test.tree) (omega (arith, test.within, inner.kept.longer))
    (stand_from ms a p q z z test.kept (keeps_all z) c.requires.called c.requires.inner _ o.stmts.items _ c.deref-in-While.ensures.value (omega (arith, past_while o.span o.e o.stmts, ap past_stmt o.is, c.requires.there)) inner.made))

pub statements-loop-one-init : goal.statements-loop-one-init
statements-loop-one-init t c = (keeps_all c.args.pool.now, λ us h. first_written c.args.pool.now c.args.macros.now c.args.frames.now c.args.pool.now c.args.stmts.now c.args.out.now.items us h)

pub statements-stmt-requires : goal.statements-stmt-requires
statements-stmt-requires t c =
    let less = past_at height c.args.stmts.now c.loop-one.one-index c.one-item.result c.one-item.is c.loop-one-test.true in
    let past = past_at past_stmt c.args.stmts.now c.loop-one.one-index c.one-item.result c.one-item.is c.loop-one-test.true in
    let kept = c.loop-one.invariant.0 in
    (omega (arith, less, c.decreases), (omega (arith, past, c.requires.there, kept.longer), (omega (arith, c.requires.called, kept.longer), omega (arith, c.requires.inner, kept.longer))))

pub statements-loop-one-preserved : goal.statements-loop-one-preserved
statements-loop-one-preserved t c =
    let p = c.args.pool.now in
    let ms = c.args.macros.now in
    let a = c.args.frames.now in
    let past = past_at past_stmt c.args.stmts.now c.loop-one.one-index c.one-item.result c.one-item.is c.loop-one-test.true in
    let said = c.in_ok-stmt.ensures in
    let kept = c.loop-one.invariant.0 in (
      Keeps-then _ _ _ kept said.kept,
      λ us h.
          subst (Stand c.stmt.new.pool c.stmt.new.out.items)
          (next_written ms a p c.loop-one.pool kept c.requires.called c.requires.inner c.args.stmts.now c.loop-one.one-index c.one-item.result c.one-item.is c.loop-one-test.true (omega (arith, past, c.requires.there)) us)
          (said.made (followed_by us (written p ms a (take c.loop-one.one-index c.args.stmts.now))) (c.loop-one.invariant.1 us h)),
    )

pub statements-returns-clause-made : goal.statements-returns-clause-made
statements-returns-clause-made t c = λ us h.
    all_written c.args.pool.now c.args.macros.now c.args.frames.now c.loop-one.pool c.args.stmts.now c.loop-one.out.items c.loop-one.one-index us c.loop-one-test.false (c.loop-one.invariant.1 us h)

pub stmt-returns-in-Some-clause-made : goal.stmt-returns-in-Some-clause-made
stmt-returns-in-Some-clause-made t c = λ us h.
    let p = c.args.pool.now in
    let o = c.in-Some.one in
    subst (λ (v : Statements). OnOk c.call.result (Stand c.call.new.pool c.call.new.out.items (followed_by us v)))
    (call_is p c.args.macros.now c.args.frames.now c.args.stmt.now (span_of o.span) o.name.now (trees_at p o.arguments.now) (c.in-Some.ensures.some p)) (c.call.ensures.made us h)

pub stmt-returns-in_ok-push-in-None-clause-made : goal.stmt-returns-in_ok-push-in-None-clause-made
stmt-returns-in_ok-push-in-None-clause-made t c = λ us h.
    let p = c.args.pool.now in
    let z = c.inside.new.pool in
    let ms = c.args.macros.now in
    let a = c.args.frames.now in
    let said = c.in_ok-one-in-None.ensures in
    stand_pushed p z said.kept c.args.out.now.items c.push.new.self.items c.in_ok-one-in-None.one us _ h
    (subst (Stand z (c.in_ok-one-in-None.one ∷ [])) (ap (graft_all (put_by p a)) (sym (c.in-None.ensures.none p (written_out (newest_first p ms))))) said.made) c.in_ok-push-in-None.ensures.items
