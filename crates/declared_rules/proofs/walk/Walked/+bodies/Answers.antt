-- Proves that the names of statements are looked at, in the order of the text.
use Rattle.std.proofs.Common.{List, [], ◌∷◌, map, Vec, Global, sym, ap, subst, arith}
use Rattle.std.proofs.lemmas.Result.{on_ok_weaker}
use Rattle.std.specs.List.{flat_map}
use Rattle.tla_tree.proofs.PoolNumbers.{past_at}
use Rattle.pcal_tree.specs.declared.algorithm.Bind.{Bind}
use Rattle.pcal_tree.specs.declared.algorithm.Stmt.{Stmt}
use Rattle.pcal_tree.specs.InMemory.{branches_at}
use Rattle.pcal_tree.proofs.StatementHeights.{height, heights, branch_heights, either_height}
use Rattle.declared_rules.specs.Parts.{bound, takes, bind_name, bind_parts, body_parts, in_branches}
use Rattle.declared_rules.specs.Walking.{AddsStmt}
use Rattle.declared_rules.proofs.WalkLaws.{adds_as}
use Rattle.declared_rules.proofs.BodyLaws.{label_adds, simple_adds, if_adds, either_adds, with_adds, while_adds, body_then, body_done, branches_then, branches_over}
use Rattle.declared_rules.proofs.walk.Walked.+bodies.Goals as goal

pub body-loop-stmt-init : goal.body-loop-stmt-init
body-loop-stmt-init t c = λ ts k g. g

pub body-stmt-requires : goal.body-stmt-requires
body-stmt-requires t c =
    let less = past_at height c.args.stmts.now c.loop-stmt.stmt-index c.stmt-item.result c.stmt-item.is c.loop-stmt-test.true in
    omega (arith, less, c.decreases)

pub body-loop-stmt-preserved : goal.body-loop-stmt-preserved
body-loop-stmt-preserved t c = λ ts k g.
    c.loop-stmt.invariant ts k
    (body_then ts c.loop-stmt.self c.stmt.new.self k c.args.stmts.now c.loop-stmt.stmt-index c.stmt-item.result c.stmt-item.is c.loop-stmt-test.true (c.in_ok-stmt.ensures ts) g)

pub body-returns : goal.body-returns
body-returns t c = λ ts. c.loop-stmt.invariant ts c.loop-stmt.self (body_done ts c.loop-stmt.self c.args.stmts.now c.loop-stmt.stmt-index c.loop-stmt-test.false)

pub branches-loop-i-init : goal.branches-loop-i-init
branches-loop-i-init t c = λ ts k g. g

pub branches-body-requires : goal.branches-body-requires
branches-body-requires t c =
    let less = past_at (λ (b : Vec Stmt Global). heights b.items) c.args.list.now c.loop-i.i c.index-list-i.result c.index-list-i.is c.loop-i-test.true in
    omega (arith, less, ap heights c.deref.ensures.value, c.decreases)

pub branches-loop-i-preserved : goal.branches-loop-i-preserved
branches-loop-i-preserved t c = λ ts k g.
    c.loop-i.invariant ts k
    (branches_then ts c.loop-i.self c.body.new.self k c.args.list.now c.loop-i.i c.index-list-i.result c.index-list-i.is c.loop-i-test.true
    (adds_as ts c.loop-i.self c.body.new.self _ _ (ap (body_parts ts) c.deref.ensures.value) (c.in_ok-body.ensures ts)) g)

pub branches-returns : goal.branches-returns
branches-returns t c = λ ts. c.loop-i.invariant ts c.loop-i.self (branches_over ts c.loop-i.self c.args.list.now c.loop-i.i c.loop-i-test.false)

pub stmt-branches-requires : goal.stmt-branches-requires
stmt-branches-requires t c =
    omega (arith, either_height c.in-Either.field-0 c.in-Either.list, ap branch_heights c.deref-in-Either.ensures.value, ap height c.in-Either.is, c.decreases)

pub stmt-returns-in-Simple : goal.stmt-returns-in-Simple
stmt-returns-in-Simple t c = λ ts.
    subst (λ (z : Stmt). AddsStmt ts z c.args.self.now c.simple.new.self) (sym c.in-Simple.is) (simple_adds ts c.args.self.now c.simple.new.self c.in-Simple.span c.in-Simple.simple (c.simple.ensures ts))

pub stmt-returns-in_ok-body-in-If : goal.stmt-returns-in_ok-body-in-If
stmt-returns-in_ok-body-in-If t c =
    on_ok_weaker c.body-in-If.result
    (λ done ts.
    subst (λ (z : Stmt). AddsStmt ts z c.args.self.now c.body-in-If.new.self) (sym c.in-If.is)
    (if_adds ts c.args.self.now c.expr.new.self c.body.new.self c.body-in-If.new.self c.in-If.field-0 c.in-If.e c.in-If.then c.in-If.otherwise (c.expr.ensures ts)
    (adds_as ts c.expr.new.self c.body.new.self _ _ (ap (body_parts ts) c.deref.ensures.value) (c.in_ok-body-in-If.ensures ts))
    (adds_as ts c.body.new.self c.body-in-If.new.self _ _ (ap (body_parts ts) c.deref-in-If.ensures.value) (done ts)))) c.body-in-If.ensures

pub stmt-returns-in-Either : goal.stmt-returns-in-Either
stmt-returns-in-Either t c =
    on_ok_weaker c.branches.result
    (λ done ts.
    subst (λ (z : Stmt). AddsStmt ts z c.args.self.now c.branches.new.self) (sym c.in-Either.is)
    (either_adds ts c.args.self.now c.branches.new.self c.in-Either.field-0 c.in-Either.list
    (adds_as ts c.args.self.now c.branches.new.self _ _ (ap (λ (ys : List (Vec Stmt Global)). in_branches (branches_at ts ys)) c.deref-in-Either.ensures.value) (done ts)))) c.branches.ensures

pub stmt-returns-in_ok-bind_list-in-With : goal.stmt-returns-in_ok-bind_list-in-With
stmt-returns-in_ok-bind_list-in-With t c =
    on_ok_weaker c.body-in-With.result
    (λ done ts.
    subst (λ (z : Stmt). AddsStmt ts z c.args.self.now c.body-in-With.new.self) (sym c.in-With.is)
    (with_adds ts c.args.self.now c.bind_list.new.self c.binds.new.self c.body-in-With.new.self c.in-With.field-0 c.in-With.binds c.in-With.body
    (adds_as ts c.args.self.now c.bind_list.new.self _ _ (ap (λ (bs : List Bind). bound (map bind_name bs) ∷ takes (map bind_name bs) ∷ []) c.deref-in-With.ensures.value) (c.in_ok-bind_list-in-With.ensures ts))
    (adds_as ts c.bind_list.new.self c.binds.new.self _ _ (ap (λ (bs : List Bind). flat_map (bind_parts ts) bs) c.deref-in-With-2.ensures.value) (c.binds.ensures ts))
    (adds_as ts c.binds.new.self c.body-in-With.new.self _ _ (ap (body_parts ts) c.deref-in-With-3.ensures.value) (done ts)))) c.body-in-With.ensures

pub stmt-returns-in-Label : goal.stmt-returns-in-Label
stmt-returns-in-Label t c = λ ts.
    subst (λ (z : Stmt). AddsStmt ts z c.args.self.now c.label.new.self) (sym c.in-Label.is) (label_adds ts c.args.self.now c.label.new.self c.in-Label.name c.in-Label.field-1 (c.label.ensures ts))

pub stmt-returns-in-While : goal.stmt-returns-in-While
stmt-returns-in-While t c =
    on_ok_weaker c.body-in-While.result
    (λ done ts.
    subst (λ (z : Stmt). AddsStmt ts z c.args.self.now c.body-in-While.new.self) (sym c.in-While.is)
    (while_adds ts c.args.self.now c.expr-in-While.new.self c.body-in-While.new.self c.in-While.field-0 c.in-While.e c.in-While.body (c.expr-in-While.ensures ts)
    (adds_as ts c.expr-in-While.new.self c.body-in-While.new.self _ _ (ap (body_parts ts) c.deref-in-While.ensures.value) (done ts)))) c.body-in-While.ensures
