-- Proves that the names of statements are met, in the order of the text.
use Rattle.std.proofs.Common.{ℕ, List, Vec, Global, take, refl, sym, ap, subst, ◌∙◌, arith}
use Rattle.std.proofs.lemmas.Result.{on_ok_weaker}
use Rattle.tla_tree.proofs.PoolNumbers.{past_at}
use Rattle.pcal_tree.specs.declared.algorithm.Bind.{Bind}
use Rattle.pcal_tree.specs.declared.algorithm.Stmt.{Stmt}
use Rattle.pcal_tree.specs.InMemory.{statements_at, branches_at}
use Rattle.pcal_tree.proofs.StatementHeights.{height, heights, branch_heights, either_height}
use Rattle.read_rules.specs.BodyNames.{names_in, names_in_some}
use Rattle.read_rules.specs.declared.used.Used.{Used}
use Rattle.read_rules.specs.Using.{Adds}
use Rattle.read_rules.specs.UsingBodies.{AddsBinds, AddsStmt}
use Rattle.read_rules.proofs.BodyLaws.{label_adds, simple_adds, if_adds, either_adds, with_adds, while_adds, body_then, body_done, branches_then, branches_over}
use Rattle.read_rules.proofs.used.Used.+bodies.Goals as goal

pub body-loop-stmt-init : goal.body-loop-stmt-init
body-loop-stmt-init t c = λ k g. g

pub body-stmt-requires : goal.body-stmt-requires
body-stmt-requires t c =
    let less = past_at height c.args.stmts.now c.loop-stmt.stmt-index c.stmt-item.result c.stmt-item.is c.loop-stmt-test.true in
    omega (arith, less, c.decreases)

pub body-loop-stmt-preserved : goal.body-loop-stmt-preserved
body-loop-stmt-preserved t c = λ k g.
    c.loop-stmt.invariant k (body_then c.args.pool.now c.loop-stmt.self c.stmt.new.self k c.args.stmts.now c.loop-stmt.stmt-index c.stmt-item.result c.stmt-item.is c.loop-stmt-test.true c.in_ok-stmt.ensures g)

pub body-returns : goal.body-returns
body-returns t c = c.loop-stmt.invariant c.loop-stmt.self (body_done c.args.pool.now c.loop-stmt.self c.args.stmts.now c.loop-stmt.stmt-index c.loop-stmt-test.false)

pub branches-loop-i-init : goal.branches-loop-i-init
branches-loop-i-init t c = λ k g. g

pub branches-body-requires : goal.branches-body-requires
branches-body-requires t c =
    let less = past_at (λ (b : Vec Stmt Global). heights b.items) c.args.list.now c.loop-i.i c.index-list-i.result c.index-list-i.is c.loop-i-test.true in
    omega (arith, less, ap heights c.deref.ensures.value, c.decreases)

pub branches-loop-i-preserved : goal.branches-loop-i-preserved
branches-loop-i-preserved t c = λ k g.
    c.loop-i.invariant k
    (branches_then c.args.pool.now c.loop-i.self c.body.new.self k c.args.list.now c.loop-i.i c.index-list-i.result c.index-list-i.is c.loop-i-test.true
    (subst (λ (ys : List Stmt). Adds c.loop-i.self c.body.new.self (names_in (statements_at c.args.pool.now ys))) c.deref.ensures.value c.in_ok-body.ensures) g)

pub branches-returns : goal.branches-returns
branches-returns t c = c.loop-i.invariant c.loop-i.self (branches_over c.args.pool.now c.loop-i.self c.args.list.now c.loop-i.i c.loop-i-test.false)

pub stmt-branches-requires : goal.stmt-branches-requires
stmt-branches-requires t c =
    omega (arith, either_height c.in-Either.field-0 c.in-Either.list, ap branch_heights c.deref-in-Either.ensures.value, ap height c.in-Either.is, c.decreases)

pub stmt-returns-in-Label : goal.stmt-returns-in-Label
stmt-returns-in-Label t c =
    subst (λ (z : Stmt). AddsStmt c.args.pool.now z c.args.self.now c.args.self.now) (sym c.in-Label.is) (label_adds c.args.pool.now c.args.self.now c.in-Label.field-0 c.in-Label.field-1)

pub stmt-returns-in_ok-body-in-If : goal.stmt-returns-in_ok-body-in-If
stmt-returns-in_ok-body-in-If t c =
    on_ok_weaker c.body-in-If.result
    (λ done.
    let ts = c.args.pool.now in
    subst (λ (z : Stmt). AddsStmt ts z c.args.self.now c.body-in-If.new.self) (sym c.in-If.is)
    (if_adds ts c.args.self.now c.expr.new.self c.body.new.self c.body-in-If.new.self c.in-If.field-0 c.in-If.e c.in-If.then c.in-If.otherwise c.in_ok-expr-in-If.ensures
    (subst (λ (ys : List Stmt). Adds c.expr.new.self c.body.new.self (names_in (statements_at ts ys))) c.deref.ensures.value c.in_ok-body-in-If.ensures)
    (subst (λ (ys : List Stmt). Adds c.body.new.self c.body-in-If.new.self (names_in (statements_at ts ys))) c.deref-in-If.ensures.value done))) c.body-in-If.ensures

pub stmt-returns-in-Either : goal.stmt-returns-in-Either
stmt-returns-in-Either t c =
    on_ok_weaker c.branches.result
    (λ done.
    let ts = c.args.pool.now in
    subst (λ (z : Stmt). AddsStmt ts z c.args.self.now c.branches.new.self) (sym c.in-Either.is)
    (either_adds ts c.args.self.now c.branches.new.self c.in-Either.field-0 c.in-Either.list
    (subst (λ (ys : List (Vec Stmt Global)). Adds c.args.self.now c.branches.new.self (names_in_some (branches_at ts ys))) c.deref-in-Either.ensures.value done))) c.branches.ensures

pub stmt-returns-in_ok-body-in-With : goal.stmt-returns-in_ok-body-in-With
stmt-returns-in_ok-body-in-With t c =
    let ts = c.args.pool.now in
    let last : Used = record { only_self = c.body-in-With.new.self.only_self; names = c.body-in-With.new.self.names; bound = c.truncate.new.self } in
    subst (λ (z : Stmt). AddsStmt ts z c.args.self.now last) (sym c.in-With.is)
    (with_adds ts c.args.self.now c.binds.new.self c.body-in-With.new.self last c.in-With.field-0 c.in-With.binds c.in-With.body
    (subst (λ (bs : List Bind). AddsBinds ts bs c.args.self.now c.binds.new.self) c.deref-in-With.ensures.value c.in_ok-binds-in-With.ensures)
    (subst (λ (ys : List Stmt). Adds c.binds.new.self c.body-in-With.new.self (names_in (statements_at ts ys))) c.deref-in-With-2.ensures.value c.in_ok-body-in-With.ensures)
    refl refl (c.truncate.ensures ∙ ap (λ (k : ℕ). take k c.body-in-With.new.self.bound) c.len-around.ensures))

pub stmt-returns-in_ok-expr-in-While : goal.stmt-returns-in_ok-expr-in-While
stmt-returns-in_ok-expr-in-While t c =
    on_ok_weaker c.body-in-While.result
    (λ done.
    let ts = c.args.pool.now in
    subst (λ (z : Stmt). AddsStmt ts z c.args.self.now c.body-in-While.new.self) (sym c.in-While.is)
    (while_adds ts c.args.self.now c.expr-in-While.new.self c.body-in-While.new.self c.in-While.field-0 c.in-While.e c.in-While.body c.in_ok-expr-in-While.ensures
    (subst (λ (ys : List Stmt). Adds c.expr-in-While.new.self c.body-in-While.new.self (names_in (statements_at ts ys))) c.deref-in-While.ensures.value done))) c.body-in-While.ensures

pub stmt-returns-in-Simple : goal.stmt-returns-in-Simple
stmt-returns-in-Simple t c =
    on_ok_weaker c.simple.result
    (λ done.
    subst (λ (z : Stmt). AddsStmt c.args.pool.now z c.args.self.now c.simple.new.self) (sym c.in-Simple.is) (simple_adds c.args.pool.now c.args.self.now c.simple.new.self c.in-Simple.field-0 c.in-Simple.simple done)) c.simple.ensures
