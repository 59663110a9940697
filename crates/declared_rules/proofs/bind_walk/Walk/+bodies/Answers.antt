-- Proves that what statements offend is found.
use Rattle.std.proofs.Common.{ℕ, List, Vec, Global, take, map, refl, sym, ap, subst, ◌∙◌, arith}
use Rattle.std.proofs.lemmas.Result.{on_ok_weaker}
use Rattle.tla_tree.proofs.PoolNumbers.{past_at}
use Rattle.pcal_tree.specs.declared.algorithm.Bind.{Bind}
use Rattle.pcal_tree.specs.declared.algorithm.Stmt.{Stmt}
use Rattle.pcal_tree.specs.InMemory.{statements_at, branches_at}
use Rattle.pcal_tree.specs.OffencesRebind.{any_name, rebound_all, body_rebinds, branches_rebind}
use Rattle.pcal_tree.proofs.StatementHeights.{height, heights, branch_heights, either_height}
use Rattle.declared_rules.specs.declared.bind_walk.Walk.{Walk}
use Rattle.declared_rules.specs.Telling.{Adds}
use Rattle.declared_rules.specs.Parts.{bind_name}
use Rattle.declared_rules.specs.Bodies.{AddsBinds, AddsStmt}
use Rattle.declared_rules.proofs.TellLaws.{adds_as, list_then, list_done}
use Rattle.declared_rules.proofs.BindBodyLaws.{label_adds, simple_adds, if_adds, either_adds, with_adds, while_adds, body_then, body_done, each_branch}
use Rattle.declared_rules.proofs.bind_walk.Walk.+bodies.Goals as goal

pub body-loop-stmt-init : goal.body-loop-stmt-init
body-loop-stmt-init t c = λ C ps h k g. g

pub body-stmt-requires : goal.body-stmt-requires
body-stmt-requires t c =
    let less = past_at height c.args.stmts.now c.loop-stmt.stmt-index c.stmt-item.result c.stmt-item.is c.loop-stmt-test.true in
    omega (arith, less, c.decreases)

pub body-loop-stmt-preserved : goal.body-loop-stmt-preserved
body-loop-stmt-preserved t c = λ C ps h k g.
    c.loop-stmt.invariant C ps h k
    (body_then c.args.sight.now C ps c.args.pool.now c.loop-stmt.self c.stmt.new.self k c.args.stmts.now c.loop-stmt.stmt-index c.stmt-item.result c.stmt-item.is c.loop-stmt-test.true (c.in_ok-stmt.ensures C ps h) g)

pub body-returns : goal.body-returns
body-returns t c = λ C ps h.
    c.loop-stmt.invariant C ps h c.loop-stmt.self (body_done c.args.sight.now C ps c.args.pool.now c.loop-stmt.self c.args.stmts.now c.loop-stmt.stmt-index c.loop-stmt-test.false)

pub branches-loop-i-init : goal.branches-loop-i-init
branches-loop-i-init t c = λ C ps h k g. g

pub branches-body-requires : goal.branches-body-requires
branches-body-requires t c =
    let less = past_at (λ (b : Vec Stmt Global). heights b.items) c.args.list.now c.loop-i.i c.index-list-i.result c.index-list-i.is c.loop-i-test.true in
    omega (arith, less, ap heights c.deref.ensures.value, c.decreases)

pub branches-loop-i-preserved : goal.branches-loop-i-preserved
branches-loop-i-preserved t c = λ C ps h k g.
    let ts = c.args.pool.now in
    c.loop-i.invariant C ps h k
    (list_then c.args.sight.now any_name (λ (b : Vec Stmt Global) ms r. body_rebinds ms ps (C ms) (statements_at ts b.items) r) c.loop-i.self c.body.new.self k c.args.list.now c.loop-i.i c.index-list-i.result c.index-list-i.is c.loop-i-test.true
    (subst (λ (ys : List Stmt). Adds c.args.sight.now any_name c.loop-i.self c.body.new.self (λ ms r. body_rebinds ms ps (C ms) (statements_at ts ys) r)) c.deref.ensures.value (c.in_ok-body.ensures C ps h)) g)

pub branches-returns : goal.branches-returns
branches-returns t c = λ C ps h.
    let ts = c.args.pool.now in
    adds_as c.args.sight.now any_name c.args.self.now c.loop-i.self _ _ (λ ms r. each_branch c.args.sight.now C ps ts ms r c.args.list.now)
    (c.loop-i.invariant C ps h c.loop-i.self (list_done c.args.sight.now any_name (λ (b : Vec Stmt Global) ms r. body_rebinds ms ps (C ms) (statements_at ts b.items) r) c.loop-i.self c.args.list.now c.loop-i.i c.loop-i-test.false))

pub stmt-branches-requires : goal.stmt-branches-requires
stmt-branches-requires t c =
    omega (arith, either_height c.in-Either.field-0 c.in-Either.list, ap branch_heights c.deref-in-Either.ensures.value, ap height c.in-Either.is, c.decreases)

pub stmt-returns-in-Label : goal.stmt-returns-in-Label
stmt-returns-in-Label t c = λ C ps h.
    subst (λ (z : Stmt). AddsStmt c.args.sight.now C ps c.args.pool.now z c.args.self.now c.args.self.now) (sym c.in-Label.is) (label_adds c.args.sight.now C ps c.args.pool.now c.args.self.now c.in-Label.field-0 c.in-Label.field-1)

pub stmt-returns-in-Simple : goal.stmt-returns-in-Simple
stmt-returns-in-Simple t c =
    on_ok_weaker c.simple.result
    (λ a C ps h.
    subst (λ (z : Stmt). AddsStmt c.args.sight.now C ps c.args.pool.now z c.args.self.now c.simple.new.self) (sym c.in-Simple.is)
    (simple_adds c.args.sight.now C ps c.args.pool.now c.args.self.now c.simple.new.self c.in-Simple.field-0 c.in-Simple.simple (a C ps h))) c.simple.ensures

pub stmt-returns-in_ok-body-in-If : goal.stmt-returns-in_ok-body-in-If
stmt-returns-in_ok-body-in-If t c =
    on_ok_weaker c.body-in-If.result
    (λ a C ps h.
    let ts = c.args.pool.now in
    let g = c.args.sight.now in
    subst (λ (z : Stmt). AddsStmt g C ps ts z c.args.self.now c.body-in-If.new.self) (sym c.in-If.is)
    (if_adds g C ps ts c.args.self.now c.expr.new.self c.body.new.self c.body-in-If.new.self c.in-If.field-0 c.in-If.e c.in-If.then c.in-If.otherwise (c.in_ok-expr-in-If.ensures any_name)
    (subst (λ (ys : List Stmt). Adds g any_name c.expr.new.self c.body.new.self (λ ms r. body_rebinds ms ps (C ms) (statements_at ts ys) r)) c.deref.ensures.value (c.in_ok-body-in-If.ensures C ps h))
    (subst (λ (ys : List Stmt). Adds g any_name c.body.new.self c.body-in-If.new.self (λ ms r. body_rebinds ms ps (C ms) (statements_at ts ys) r)) c.deref-in-If.ensures.value (a C ps h)))) c.body-in-If.ensures

pub stmt-returns-in-Either : goal.stmt-returns-in-Either
stmt-returns-in-Either t c =
    on_ok_weaker c.branches.result
    (λ a C ps h.
    let ts = c.args.pool.now in
    let g = c.args.sight.now in
    subst (λ (z : Stmt). AddsStmt g C ps ts z c.args.self.now c.branches.new.self) (sym c.in-Either.is)
    (either_adds g C ps ts c.args.self.now c.branches.new.self c.in-Either.field-0 c.in-Either.list
    (subst (λ (ys : List (Vec Stmt Global)). Adds g any_name c.args.self.now c.branches.new.self (λ ms r. branches_rebind ms ps (C ms) (branches_at ts ys) r)) c.deref-in-Either.ensures.value (a C ps h)))) c.branches.ensures

pub stmt-returns-in_ok-body-in-With : goal.stmt-returns-in_ok-body-in-With
stmt-returns-in_ok-body-in-With t c = λ C ps h.
    let ts = c.args.pool.now in
    let g = c.args.sight.now in
    let last : Walk = record { bound = c.truncate.new.self; first = c.body-in-With.new.self.first; free = c.body-in-With.new.self.free } in
    subst (λ (z : Stmt). AddsStmt g C ps ts z c.args.self.now last) (sym c.in-With.is)
    (with_adds g C ps ts c.args.self.now c.bind_names.new.self c.binds.new.self c.body-in-With.new.self last c.in-With.field-0 c.in-With.binds c.in-With.body
    (subst (λ (bs : List Bind). Adds g any_name c.args.self.now c.bind_names.new.self (λ ms r. rebound_all ms r (map bind_name bs))) c.deref-in-With.ensures.value c.in_ok-bind_names-in-With.ensures)
    (subst (λ (bs : List Bind). AddsBinds g ts bs c.bind_names.new.self c.binds.new.self) c.deref-in-With-2.ensures.value c.in_ok-binds-in-With.ensures)
    (subst (λ (ys : List Stmt). Adds g any_name c.binds.new.self c.body-in-With.new.self (λ ms r. body_rebinds ms ps (C ms) (statements_at ts ys) r)) c.deref-in-With-3.ensures.value (c.in_ok-body-in-With.ensures C ps h))
    refl refl (c.truncate.ensures ∙ ap (λ (k : ℕ). take k c.body-in-With.new.self.bound) c.len-around.ensures))

pub stmt-returns-in_ok-expr-in-While : goal.stmt-returns-in_ok-expr-in-While
stmt-returns-in_ok-expr-in-While t c =
    on_ok_weaker c.body-in-While.result
    (λ a C ps h.
    let ts = c.args.pool.now in
    let g = c.args.sight.now in
    subst (λ (z : Stmt). AddsStmt g C ps ts z c.args.self.now c.body-in-While.new.self) (sym c.in-While.is)
    (while_adds g C ps ts c.args.self.now c.expr-in-While.new.self c.body-in-While.new.self c.in-While.field-0 c.in-While.e c.in-While.body (c.in_ok-expr-in-While.ensures any_name)
    (subst (λ (ys : List Stmt). Adds g any_name c.expr-in-While.new.self c.body-in-While.new.self (λ ms r. body_rebinds ms ps (C ms) (statements_at ts ys) r)) c.deref-in-While.ensures.value (a C ps h)))) c.body-in-While.ensures
