-- Proves that the actions of the labels of statements are added in the order of the text.
use Rattle.std.proofs.Common.{◌≡◌, ◌+◌, List, [], ◌∷◌, ◌++◌, drop, Vec, Global, ap, sym, ◌∙◌, arith}
use Rattle.std.proofs.lemmas.Result.{on_ok_weaker}
use Rattle.tla_tree.specs.Tree.{Name}
use Rattle.tla_tree.proofs.PoolNumbers.{past_at}
use Rattle.pcal_tree.specs.declared.algorithm.Stmt.{Stmt}
use Rattle.pcal_tree.specs.InMemory.{statements_at, branches_at, past_stmt, past_statements, past_branches}
use Rattle.pcal_tree.specs.Run.{label_of}
use Rattle.pcal_tree.proofs.InMemoryEach.{past_if, past_either, past_with, past_while}
use Rattle.pcal_tree.proofs.InMemoryGrown.{statements_at-kept}
use Rattle.pcal_tree.proofs.StatementHeights.{height, heights, branch_heights, if_height, either_height, with_height, while_height}
use Rattle.step_forms.specs.Steps.{steps, steps_some}
use Rattle.module_formulas.proofs.Grown.{taker_in-kept}
use Rattle.label_actions.specs.Fitting.{step_from, first_steps, here_at}
use Rattle.step_items.proofs.DeskLaws.{desk_more}
use Rattle.label_actions.proofs.StepsAdded.{adds_none, adds_same, adds_then, far_more}
use Rattle.label_actions.proofs.FirstSteps.{past_drop, list_more, slice_rest, label_steps, simple_steps, if_steps, either_steps, with_steps, while_steps, branch_more}
use Rattle.label_actions.proofs.walk.+actions.Goals as goal

-- ---- lists and branches

pub statements-loop-i-preserved : goal.statements-loop-i-preserved
statements-loop-i-preserved t c =
    let ts = c.args.pool.now in
    let us = c.loop-i.pool in
    let ss = c.args.stmts.now in
    let i = c.loop-i.i in
    let here = c.args.here.now in
    let x = c.args.exit.now in
    let said = c.in_ok-stmt.ensures in
    far_more ts c.args.desk.now c.args.taker c.args.out.now.items (steps here (statements_at ts ss) x) us c.stmt.new.pool c.requires.desk c.requires.taker c.loop-i.out.items c.stmt.new.out.items
    (first_steps c.label_at-label.result.now (statements_at us (drop i ss)) x) (steps (here_at ts here x ss i) (statements_at ts (drop i ss)) x) (steps (here_at ts here x ss (i + 1)) (statements_at ts (drop (i + 1) ss)) x)
    c.loop-i.invariant (λ e. list_more ts us c.loop-i.invariant.kept ss c.requires.statements i c.loop-i-test.true here c.label_at-label.result.now x (c.label_at-label.ensures ts e)) said.made said.kept said.within

pub branches-statements-requires : goal.branches-statements-requires
branches-statements-requires t c =
    let less = past_at (λ (b : Vec Stmt Global). heights b.items) c.args.list.now c.loop-i.i c.index-list-i.result c.index-list-i.is c.loop-i-test.true in
    let past = past_at (λ (b : Vec Stmt Global). past_statements b.items) c.args.list.now c.loop-i.i c.index-list-i.result c.index-list-i.is c.loop-i-test.true in
    let kept = c.loop-i.invariant.kept in
    let longer = kept.longer in (
      omega (arith, less, ap heights c.deref.ensures.value, c.decreases),
      (
        omega (arith, past, ap past_statements c.deref.ensures.value, c.requires.statements, longer),
        (desk_more _ _ c.args.desk.now longer c.requires.desk, (taker_in-kept _ _ kept c.args.taker c.requires.taker, c.loop-i.invariant.within)),
      ),
    )

pub branches-loop-i-preserved : goal.branches-loop-i-preserved
branches-loop-i-preserved t c =
    let ts = c.args.pool.now in
    let us = c.loop-i.pool in
    let bs = c.args.list.now in
    let b = c.index-list-i.result in
    let i = c.loop-i.i in
    let x = c.args.exit.now in
    let empty = c.args.desk.now.unlabelled.now in
    let past = past_at (λ (z : Vec Stmt Global). past_statements z.items) bs i b c.index-list-i.is c.loop-i-test.true in
    let left = steps_some (branches_at ts (drop (i + 1) bs)) x in
    let said = c.in_ok-statements.ensures in
    far_more ts c.args.desk.now c.args.taker c.args.out.now.items (steps_some (branches_at ts bs) x) us c.statements.new.pool c.requires.desk c.requires.taker c.loop-i.out.items c.statements.new.out.items
    (steps empty (statements_at us c.deref.result.now) x) (steps_some (branches_at ts (drop i bs)) x) left c.loop-i.invariant
    (λ e. branch_more ts us c.loop-i.invariant.kept bs i b c.index-list-i.is c.loop-i-test.true (omega (arith, past, c.requires.statements)) empty x e
    ∙ ap (λ (zs : List Stmt). steps empty (statements_at us zs) x ++ left) (sym c.deref.ensures.value))
    said.made said.kept said.within

-- ---- each kind of statement

pub stmt-add_action-requires-clause-statements : goal.stmt-add_action-requires-clause-statements
stmt-add_action-requires-clause-statements t c =
    let past = past_drop past_stmt c.args.stmts.now (c.args.number + 1) in omega (arith, past, ap past_statements (slice_rest c.args.stmts.now (c.args.number + 1)), c.requires.statements)

pub stmt-statements-requires : goal.stmt-statements-requires
stmt-statements-requires t c =
    let less = past_at height c.args.stmts.now c.args.number c.index-stmts-number.result c.index-stmts-number.is c.requires.there in
    let past = past_at past_stmt c.args.stmts.now c.args.number c.index-stmts-number.result c.index-stmts-number.is c.requires.there in
    let o = c.in-If in (
      omega (arith, less, if_height o.field-0 o.field-1 o.then o.otherwise, ap heights c.deref.ensures.value, ap height o.is, c.decreases),
      (
        omega (arith, past, past_if o.field-0 o.field-1 o.then o.otherwise, ap past_statements c.deref.ensures.value, ap past_stmt o.is, c.requires.statements),
        (c.requires.desk, (c.requires.taker, c.requires.before)),
      ),
    )

pub stmt-statements-requires-in-If : goal.stmt-statements-requires-in-If
stmt-statements-requires-in-If t c =
    let less = past_at height c.args.stmts.now c.args.number c.index-stmts-number.result c.index-stmts-number.is c.requires.there in
    let past = past_at past_stmt c.args.stmts.now c.args.number c.index-stmts-number.result c.index-stmts-number.is c.requires.there in
    let said = c.in_ok-statements-in-If.ensures in
    let longer = said.kept.longer in
    let o = c.in-If in (
      omega (arith, less, if_height o.field-0 o.field-1 o.then o.otherwise, ap heights c.deref-in-If.ensures.value, ap height o.is, c.decreases),
      (
        omega (arith, past, past_if o.field-0 o.field-1 o.then o.otherwise, ap past_statements c.deref-in-If.ensures.value, ap past_stmt o.is, c.requires.statements, longer),
        (desk_more _ _ c.args.desk.now longer c.requires.desk, (taker_in-kept _ _ said.kept c.args.taker c.requires.taker, said.within)),
      ),
    )

pub stmt-branches-requires : goal.stmt-branches-requires
stmt-branches-requires t c =
    let less = past_at height c.args.stmts.now c.args.number c.index-stmts-number.result c.index-stmts-number.is c.requires.there in
    let past = past_at past_stmt c.args.stmts.now c.args.number c.index-stmts-number.result c.index-stmts-number.is c.requires.there in
    let o = c.in-Either in (
      omega (arith, less, either_height o.field-0 o.list, ap branch_heights c.deref-in-Either.ensures.value, ap height o.is, c.decreases),
      (
        omega (arith, past, past_either o.field-0 o.list, ap past_branches c.deref-in-Either.ensures.value, ap past_stmt o.is, c.requires.statements),
        (c.requires.desk, (c.requires.taker, c.requires.before)),
      ),
    )

pub stmt-statements-requires-in-With : goal.stmt-statements-requires-in-With
stmt-statements-requires-in-With t c =
    let less = past_at height c.args.stmts.now c.args.number c.index-stmts-number.result c.index-stmts-number.is c.requires.there in
    let past = past_at past_stmt c.args.stmts.now c.args.number c.index-stmts-number.result c.index-stmts-number.is c.requires.there in
    let o = c.in-With in (
      omega (arith, less, with_height o.field-0 o.field-1 o.body, ap heights c.deref-in-With.ensures.value, ap height o.is, c.decreases),
      (
        omega (arith, past, past_with o.field-0 o.field-1 o.body, ap past_statements c.deref-in-With.ensures.value, ap past_stmt o.is, c.requires.statements),
        (c.requires.desk, (c.requires.taker, c.requires.before)),
      ),
    )

pub stmt-statements-requires-in-While : goal.stmt-statements-requires-in-While
stmt-statements-requires-in-While t c =
    let less = past_at height c.args.stmts.now c.args.number c.index-stmts-number.result c.index-stmts-number.is c.requires.there in
    let past = past_at past_stmt c.args.stmts.now c.args.number c.index-stmts-number.result c.index-stmts-number.is c.requires.there in
    let o = c.in-While in (
      omega (arith, less, while_height o.field-0 o.field-1 o.body, ap heights c.deref-in-While.ensures.value, ap height o.is, c.decreases),
      (
        omega (arith, past, past_while o.field-0 o.field-1 o.body, ap past_statements c.deref-in-While.ensures.value, ap past_stmt o.is, c.requires.statements),
        (c.requires.desk, (c.requires.taker, c.requires.before)),
      ),
    )

pub stmt-returns-in-Label-clause-made : goal.stmt-returns-in-Label-clause-made
stmt-returns-in-Label-clause-made t c =
    let ts = c.args.pool.now in
    let ss = c.args.stmts.now in
    let n = c.args.number in
    let x = c.args.exit.now in
    let s = c.index-stmts-number in
    on_ok_weaker c.add_action.result (λ g.
    adds_same c.args.desk.now c.args.taker ts c.add_action.new.pool c.args.out.now.items c.add_action.new.out.items _ _
    (λ e. label_steps ts ss n s.result s.is c.requires.there c.args.here.now x c.in-Label.name c.in-Label.field-1 c.in-Label.is
    ∙ (λ j. step_from ts (sym (ap (λ (y : Name). y.word) c.name.view_is) j) x (sym (slice_rest ss (n + 1)) j) ∷ []))
    g)
    c.add_action.ensures.made

pub stmt-returns-in-Simple-clause-made : goal.stmt-returns-in-Simple-clause-made
stmt-returns-in-Simple-clause-made t c =
    let ts = c.args.pool.now in
    let out = c.args.out.now.items in
    let s = c.index-stmts-number in
    adds_same c.args.desk.now c.args.taker ts ts out out [] _
    (λ e. simple_steps ts c.args.stmts.now c.args.number s.result s.is c.requires.there c.args.here.now c.args.exit.now c.in-Simple.field-0 c.in-Simple.field-1 c.in-Simple.is)
    (adds_none c.args.desk.now c.args.taker ts out)

pub stmt-returns-in_ok-statements-in-If-clause-made : goal.stmt-returns-in_ok-statements-in-If-clause-made
stmt-returns-in_ok-statements-in-If-clause-made t c =
    let ts = c.args.pool.now in
    let us = c.statements.new.pool in
    let vs = c.statements-in-If.new.pool in
    let d = c.args.desk.now in
    let ss = c.args.stmts.now in
    let n = c.args.number in
    let x = c.args.exit.now in
    let s = c.index-stmts-number in
    let o = c.in-If in
    let said = c.in_ok-statements-in-If.ensures in
    let past = past_at past_stmt ss n s.result s.is c.requires.there in
    on_ok_weaker c.statements-in-If.result (λ g.
    adds_same d c.args.taker ts vs c.args.out.now.items c.statements-in-If.new.out.items _ _
    (λ e.
    let next = c.follow-next.ensures ts e ∙ ap (λ (zs : List Stmt). label_of (statements_at ts zs) x) (slice_rest ss (n + 1)) in
    let second : statements_at us c.deref-in-If.result.now ≡ statements_at ts o.otherwise.items = ap (statements_at us) c.deref-in-If.ensures.value
    ∙ statements_at-kept ts us said.kept o.otherwise.items (omega (arith, past, past_if o.field-0 o.field-1 o.then o.otherwise, ap past_stmt o.is, c.requires.statements)) in
    if_steps ts ss n s.result s.is c.requires.there c.args.here.now x o.field-0 o.field-1 o.then o.otherwise o.is
    ∙ (λ j. steps (sym e j) (statements_at ts (sym c.deref.ensures.value j)) (sym next j) ++ steps (sym e j) (sym second j) (sym next j)))
    (adds_then d c.args.taker ts us vs said.kept c.requires.desk c.requires.taker c.args.out.now.items c.statements.new.out.items c.statements-in-If.new.out.items _ _ said.made g))
    c.statements-in-If.ensures.made

pub stmt-returns-in-Either-clause-made : goal.stmt-returns-in-Either-clause-made
stmt-returns-in-Either-clause-made t c =
    let ts = c.args.pool.now in
    let ss = c.args.stmts.now in
    let n = c.args.number in
    let x = c.args.exit.now in
    let s = c.index-stmts-number in
    let o = c.in-Either in
    on_ok_weaker c.branches.result (λ g.
    adds_same c.args.desk.now c.args.taker ts c.branches.new.pool c.args.out.now.items c.branches.new.out.items _ _
    (λ e.
    let next = c.follow-next.ensures ts e ∙ ap (λ (zs : List Stmt). label_of (statements_at ts zs) x) (slice_rest ss (n + 1)) in
    either_steps ts ss n s.result s.is c.requires.there c.args.here.now x o.field-0 o.list o.is
    ∙ (λ j. steps_some (branches_at ts (sym c.deref-in-Either.ensures.value j)) (sym next j)))
    g)
    c.branches.ensures.made

pub stmt-returns-in-With-clause-made : goal.stmt-returns-in-With-clause-made
stmt-returns-in-With-clause-made t c =
    let ts = c.args.pool.now in
    let ss = c.args.stmts.now in
    let n = c.args.number in
    let x = c.args.exit.now in
    let s = c.index-stmts-number in
    let o = c.in-With in
    on_ok_weaker c.statements-in-With.result (λ g.
    adds_same c.args.desk.now c.args.taker ts c.statements-in-With.new.pool c.args.out.now.items c.statements-in-With.new.out.items _ _
    (λ e.
    let next = c.follow-next.ensures ts e ∙ ap (λ (zs : List Stmt). label_of (statements_at ts zs) x) (slice_rest ss (n + 1)) in
    with_steps ts ss n s.result s.is c.requires.there c.args.here.now x o.field-0 o.field-1 o.body o.is
    ∙ (λ j. steps (sym e j) (statements_at ts (sym c.deref-in-With.ensures.value j)) (sym next j)))
    g)
    c.statements-in-With.ensures.made

pub stmt-returns-in-While-clause-made : goal.stmt-returns-in-While-clause-made
stmt-returns-in-While-clause-made t c =
    let ts = c.args.pool.now in
    let ss = c.args.stmts.now in
    let n = c.args.number in
    let x = c.args.exit.now in
    let s = c.index-stmts-number in
    let o = c.in-While in
    on_ok_weaker c.statements-in-While.result (λ g.
    adds_same c.args.desk.now c.args.taker ts c.statements-in-While.new.pool c.args.out.now.items c.statements-in-While.new.out.items _ _
    (λ e.
    while_steps ts ss n s.result s.is c.requires.there c.args.here.now x o.field-0 o.field-1 o.body o.is
    ∙ (λ j. steps (sym e j) (statements_at ts (sym c.deref-in-While.ensures.value j)) c.args.here.now))
    g)
    c.statements-in-While.ensures.made
