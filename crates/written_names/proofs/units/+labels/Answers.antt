-- Proves that labels get their names, in the order of the text.
use Rattle.std.proofs.Common.{List, [], ◌∷◌, Vec, Global, sym, ap, subst, arith}
use Rattle.std.proofs.lemmas.Result.{on_ok_weaker}
use Rattle.tla_tree.specs.Tree.{Name, words}
use Rattle.tla_tree.proofs.PoolNumbers.{past_at}
use Rattle.pcal_tree.specs.declared.algorithm.Stmt.{Stmt}
use Rattle.pcal_tree.specs.InMemory.{statements_at, branches_at}
use Rattle.pcal_tree.proofs.StatementHeights.{height, heights, branch_heights, either_height}
use Rattle.algorithm_limits.specs.LabelNames.{label_names, names_of_some}
use Rattle.written_names.specs.Units.{NamesStmt}
use Rattle.written_names.proofs.Given.{gives_as}
use Rattle.written_names.proofs.UnitWalks.{label_named, simple_named, if_named, either_named, with_named, while_named, stmt_then, stmts_done, branch_then, branches_done}
use Rattle.written_names.proofs.units.+labels.Goals as goal

pub name_branches-name_statements-requires : goal.name_branches-name_statements-requires
name_branches-name_statements-requires t c =
    let less = past_at (λ (b : Vec Stmt Global). heights b.items) c.args.list.now c.loop-i.i c.index-list-i.result c.index-list-i.is c.loop-i-test.true in
    omega (arith, less, ap heights c.deref.ensures.value, c.decreases)

pub name_statements-name_stmt-requires : goal.name_statements-name_stmt-requires
name_statements-name_stmt-requires t c =
    let less = past_at height c.args.stmts.now c.loop-stmt.stmt-index c.stmt-item.result c.stmt-item.is c.loop-stmt-test.true in omega (arith, less, c.decreases)

pub name_stmt-name_branches-requires : goal.name_stmt-name_branches-requires
name_stmt-name_branches-requires t c =
    omega (arith, either_height c.in-Either.field-0 c.in-Either.list, ap branch_heights c.deref-in-Either.ensures.value, ap height c.in-Either.is, c.decreases)

pub name_branches-loop-i-preserved : goal.name_branches-loop-i-preserved
name_branches-loop-i-preserved t c = λ ts k qs g.
    c.loop-i.invariant ts k qs
    (branch_then ts c.loop-i.giver c.name_statements.new.giver k c.loop-i.into c.name_statements.new.into qs c.args.list.now c.loop-i.i c.index-list-i.result c.index-list-i.is c.loop-i-test.true
    (gives_as c.loop-i.giver c.name_statements.new.giver c.loop-i.into c.name_statements.new.into _ _ (ap (λ (ys : List Stmt). words (label_names (statements_at ts ys))) c.deref.ensures.value) (c.in_ok-name_statements.ensures ts))
    g)

pub name_branches-returns : goal.name_branches-returns
name_branches-returns t c = λ ts. c.loop-i.invariant ts c.loop-i.giver c.loop-i.into (branches_done ts c.loop-i.giver c.loop-i.into c.args.list.now c.loop-i.i c.loop-i-test.false)

pub name_statements-loop-stmt-preserved : goal.name_statements-loop-stmt-preserved
name_statements-loop-stmt-preserved t c = λ ts k qs g.
    c.loop-stmt.invariant ts k qs
    (stmt_then ts c.loop-stmt.giver c.name_stmt.new.giver k c.loop-stmt.into c.name_stmt.new.into qs c.args.stmts.now c.loop-stmt.stmt-index c.stmt-item.result c.stmt-item.is c.loop-stmt-test.true (c.in_ok-name_stmt.ensures ts) g)

pub name_statements-returns : goal.name_statements-returns
name_statements-returns t c = λ ts. c.loop-stmt.invariant ts c.loop-stmt.giver c.loop-stmt.into (stmts_done ts c.loop-stmt.giver c.loop-stmt.into c.args.stmts.now c.loop-stmt.stmt-index c.loop-stmt-test.false)

pub name_stmt-returns-in-Label : goal.name_stmt-returns-in-Label
name_stmt-returns-in-Label t c =
    on_ok_weaker c.name_one.result (λ g ts.
    subst (λ (z : Stmt). NamesStmt ts z c.args.giver.now c.name_one.new.giver c.args.into.now c.name_one.new.into) (sym c.in-Label.is)
    (label_named ts c.args.giver.now c.name_one.new.giver c.args.into.now c.name_one.new.into c.in-Label.name c.in-Label.field-1
    (gives_as c.args.giver.now c.name_one.new.giver c.args.into.now c.name_one.new.into _ _ (ap (λ (x : Name). x.word ∷ []) c.name.view_is) g)))
    c.name_one.ensures

pub name_stmt-returns-in-Simple : goal.name_stmt-returns-in-Simple
name_stmt-returns-in-Simple t c = λ ts.
    subst (λ (z : Stmt). NamesStmt ts z c.args.giver.now c.args.giver.now c.args.into.now c.args.into.now) (sym c.in-Simple.is)
    (simple_named ts c.args.giver.now c.args.into.now c.in-Simple.field-0 c.in-Simple.field-1)

pub name_stmt-returns-in_ok-name_statements-in-If : goal.name_stmt-returns-in_ok-name_statements-in-If
name_stmt-returns-in_ok-name_statements-in-If t c =
    on_ok_weaker c.name_statements-in-If.result (λ g ts.
    subst (λ (z : Stmt). NamesStmt ts z c.args.giver.now c.name_statements-in-If.new.giver c.args.into.now c.name_statements-in-If.new.into) (sym c.in-If.is)
    (if_named ts c.args.giver.now c.name_statements.new.giver c.name_statements-in-If.new.giver c.args.into.now c.name_statements.new.into c.name_statements-in-If.new.into c.in-If.field-0 c.in-If.field-1 c.in-If.then c.in-If.otherwise
    (gives_as c.args.giver.now c.name_statements.new.giver c.args.into.now c.name_statements.new.into _ _ (ap (λ (ys : List Stmt). words (label_names (statements_at ts ys))) c.deref.ensures.value) (c.in_ok-name_statements-in-If.ensures ts))
    (gives_as c.name_statements.new.giver c.name_statements-in-If.new.giver c.name_statements.new.into c.name_statements-in-If.new.into _ _ (ap (λ (ys : List Stmt). words (label_names (statements_at ts ys))) c.deref-in-If.ensures.value) (g ts))))
    c.name_statements-in-If.ensures

pub name_stmt-returns-in-Either : goal.name_stmt-returns-in-Either
name_stmt-returns-in-Either t c =
    on_ok_weaker c.name_branches.result (λ g ts.
    subst (λ (z : Stmt). NamesStmt ts z c.args.giver.now c.name_branches.new.giver c.args.into.now c.name_branches.new.into) (sym c.in-Either.is)
    (either_named ts c.args.giver.now c.name_branches.new.giver c.args.into.now c.name_branches.new.into c.in-Either.field-0 c.in-Either.list
    (gives_as c.args.giver.now c.name_branches.new.giver c.args.into.now c.name_branches.new.into _ _ (ap (λ (ys : List (Vec Stmt Global)). words (names_of_some (branches_at ts ys))) c.deref-in-Either.ensures.value) (g ts))))
    c.name_branches.ensures

pub name_stmt-returns-in-With : goal.name_stmt-returns-in-With
name_stmt-returns-in-With t c =
    on_ok_weaker c.name_statements-in-With.result (λ g ts.
    subst (λ (z : Stmt). NamesStmt ts z c.args.giver.now c.name_statements-in-With.new.giver c.args.into.now c.name_statements-in-With.new.into) (sym c.in-With.is)
    (with_named ts c.args.giver.now c.name_statements-in-With.new.giver c.args.into.now c.name_statements-in-With.new.into c.in-With.field-0 c.in-With.field-1 c.in-With.body
    (gives_as c.args.giver.now c.name_statements-in-With.new.giver c.args.into.now c.name_statements-in-With.new.into _ _ (ap (λ (ys : List Stmt). words (label_names (statements_at ts ys))) c.deref-in-With.ensures.value) (g ts))))
    c.name_statements-in-With.ensures

pub name_stmt-returns-in-While : goal.name_stmt-returns-in-While
name_stmt-returns-in-While t c =
    on_ok_weaker c.name_statements-in-While.result (λ g ts.
    subst (λ (z : Stmt). NamesStmt ts z c.args.giver.now c.name_statements-in-While.new.giver c.args.into.now c.name_statements-in-While.new.into) (sym c.in-While.is)
    (while_named ts c.args.giver.now c.name_statements-in-While.new.giver c.args.into.now c.name_statements-in-While.new.into c.in-While.field-0 c.in-While.field-1 c.in-While.body
    (gives_as c.args.giver.now c.name_statements-in-While.new.giver c.args.into.now c.name_statements-in-While.new.into _ _ (ap (λ (ys : List Stmt). words (label_names (statements_at ts ys))) c.deref-in-While.ensures.value) (g ts))))
    c.name_statements-in-While.ensures
