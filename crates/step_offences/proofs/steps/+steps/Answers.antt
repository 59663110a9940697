-- Proves that what statements offend along all paths is found.
use Rattle.std.proofs.Common.{◌+◌, List, None, Vec, Global, drop, refl, ap, ◌∙◌, subst, arith}
use Rattle.std.proofs.lemmas.Result.{on_ok_weaker, IfOk-weaker}
use Rattle.tla_tree.proofs.PoolNumbers.{past_at}
use Rattle.pcal_tree.specs.declared.algorithm.Stmt.{Stmt}
use Rattle.pcal_tree.specs.InMemory.{span_of, past_stmt, past_statements, past_branches, simple_at, stmt_at, statements_at, branches_at}
use Rattle.pcal_tree.specs.Run.{partner_of}
use Rattle.pcal_tree.proofs.InMemoryEach.{simple_in_list_at, past_either}
use Rattle.pcal_tree.proofs.StatementHeights.{height, heights, branch_heights, either_height}
use Rattle.label_steps.specs.PathsIn.{path_of}
use Rattle.label_steps.specs.WalksIn.{IsKind}
use Rattle.label_steps.proofs.WalksLaws.{next_one, next_none, next_branch, next_no_branch, not_label, alike_then}
use Rattle.label_steps.proofs.WaysLaws.{rounds_lead}
use Rattle.added_labels.specs.Sight.{effects_of}
use Rattle.step_offences.specs.Stepping.{GoesAll}
use Rattle.step_offences.proofs.ToldLaws.{ok_then}
use Rattle.step_offences.proofs.StepLaws.{one_stands}
use Rattle.step_offences.proofs.ShapeLaws.{behind_both, if_stands, either_stands, with_stands, while_stands}
use Rattle.step_offences.proofs.ListLaws.{left_first, left_more, left_labelled, left_done, some_first, some_more, some_done}
use Rattle.step_offences.proofs.steps.+steps.Goals as goal

pub of_list-loop-i-init : goal.of_list-loop-i-init
of_list-loop-i-init t c = λ ms k. left_first (effects_of c.args.at.now ms) c.args.due (statements_at c.args.pool.now c.args.stmts.now) c.args.ways.now c.args.found.now

pub of_list-loop-i-preserved-then-is_label : goal.of_list-loop-i-preserved-then-is_label
of_list-loop-i-preserved-then-is_label t c = λ ms k.
    let ts = c.args.pool.now in
    let kind = subst (λ b. IsKind b ts c.index-stmts-i.result) c.if-is_label.true (c.is_label.ensures ts) in
    left_labelled (effects_of c.args.at.now ms) c.args.due (statements_at ts c.args.stmts.now) c.args.ways.now c.args.found.now c.loop-i.found (statements_at ts (drop c.loop-i.i c.args.stmts.now))
    (statements_at ts (drop (c.loop-i.i + 1) c.args.stmts.now)) (stmt_at ts c.index-stmts-i.result) c.loop-i.labelled c.loop-i.due c.loop-i.ways c.behind_label.result kind.0 kind.1 c.loop-i.held
    (next_one ts c.args.stmts.now c.loop-i.i c.index-stmts-i.result c.index-stmts-i.is c.loop-i-test.true) kind.2 c.behind_label.ensures (c.loop-i.invariant ms k)

pub of_list-of_stmt-requires : goal.of_list-of_stmt-requires
of_list-of_stmt-requires t c =
    let less = past_at height c.args.stmts.now c.loop-i.i c.index-stmts-i.result c.index-stmts-i.is c.loop-i-test.true in
    let within = past_at past_stmt c.args.stmts.now c.loop-i.i c.index-stmts-i.result c.index-stmts-i.is c.loop-i-test.true in
    (omega (arith, less, c.decreases), omega (arith, within, c.requires))

pub of_list-loop-i-preserved : goal.of_list-loop-i-preserved
of_list-loop-i-preserved t c = λ ms k.
    let ts = c.args.pool.now in
    let kind = subst (λ b. IsKind b ts c.index-stmts-i.result) c.if-is_label.false (c.is_label.ensures ts) in
    let rest = statements_at ts (drop (c.loop-i.i + 1) c.args.stmts.now) in
    left_more (effects_of c.args.at.now ms) c.args.due (statements_at ts c.args.stmts.now) c.args.ways.now c.args.found.now c.loop-i.found c.of_stmt.new.found (statements_at ts (drop c.loop-i.i c.args.stmts.now))
    rest (stmt_at ts c.index-stmts-i.result) c.loop-i.labelled c.loop-i.due c.loop-i.ways c.of_stmt.new.ways kind.0 kind.1 c.in_ok-behind.behind c.loop-i.held c.either-held.result
    (next_one ts c.args.stmts.now c.loop-i.i c.index-stmts-i.result c.index-stmts-i.is c.loop-i-test.true) kind.2 (c.in_ok-behind.ensures ms k (partner_of rest) (c.next_of-next.ensures ts) kind.0 kind.1 kind.2) c.either-held.ensures
    (c.loop-i.invariant ms k)

pub of_list-returns : goal.of_list-returns
of_list-returns t c = λ ms k.
    left_done (effects_of c.args.at.now ms) c.args.due (statements_at c.args.pool.now c.args.stmts.now) c.args.ways.now c.args.found.now c.loop-i.found (statements_at c.args.pool.now (drop c.loop-i.i c.args.stmts.now))
    c.loop-i.labelled c.loop-i.due c.loop-i.ways c.loop-i.held (next_none c.args.pool.now c.args.stmts.now c.loop-i.i c.loop-i-test.false) (c.loop-i.invariant ms k)

pub of_branches-loop-i-init : goal.of_branches-loop-i-init
of_branches-loop-i-init t c = λ ms k.
    some_first (effects_of c.args.at.now ms) (branches_at c.args.pool.now c.args.list.now) c.args.ways.now c.none-ends.result c.args.found.now c.none-ends.ensures

pub of_branches-of_list-requires : goal.of_branches-of_list-requires
of_branches-of_list-requires t c =
    let less = past_at (λ (b : Vec Stmt Global). heights b.items) c.args.list.now c.loop-i.i c.index-list-i.result c.index-list-i.is c.loop-i-test.true in
    let within = past_at (λ (b : Vec Stmt Global). past_statements b.items) c.args.list.now c.loop-i.i c.index-list-i.result c.index-list-i.is c.loop-i-test.true in
    (omega (arith, less, ap heights c.deref.ensures.value, c.decreases), omega (arith, within, ap past_statements c.deref.ensures.value, c.requires))

pub of_branches-loop-i-preserved : goal.of_branches-loop-i-preserved
of_branches-loop-i-preserved t c = λ ms k.
    let ts = c.args.pool.now in
    let b = c.index-list-i.result in
    some_more (effects_of c.args.at.now ms) (branches_at ts c.args.list.now) (branches_at ts (drop c.loop-i.i c.args.list.now)) (branches_at ts (drop (c.loop-i.i + 1) c.args.list.now)) (statements_at ts b.items)
    c.args.ways.now c.in_ok-one.one c.of_list.new.ways c.loop-i.ends c.join.new.self c.args.found.now c.loop-i.found c.of_list.new.found c.loop-i.held c.in_ok-inner.inner c.either-held.result
    (next_branch ts c.args.list.now c.loop-i.i b c.index-list-i.is c.loop-i-test.true) c.in_ok-one.ensures
    (subst (λ (ss : List Stmt). GoesAll (effects_of c.args.at.now ms) None (statements_at ts ss) c.in_ok-one.one c.of_list.new.ways c.loop-i.found c.of_list.new.found c.in_ok-inner.inner) c.deref.ensures.value (c.in_ok-inner.ensures ms k))
    c.in_ok-join.ensures c.either-held.ensures (c.loop-i.invariant ms k)

pub of_branches-returns : goal.of_branches-returns
of_branches-returns t c = λ ms k.
    some_done (effects_of c.args.at.now ms) (branches_at c.args.pool.now c.args.list.now) (branches_at c.args.pool.now (drop c.loop-i.i c.args.list.now)) c.args.ways.now c.loop-i.ends c.args.found.now c.loop-i.found c.loop-i.held
    (next_no_branch c.args.pool.now c.args.list.now c.loop-i.i c.loop-i-test.false) (c.loop-i.invariant ms k)

pub of_inside-returns-clause-told : goal.of_inside-returns-clause-told
of_inside-returns-clause-told t c =
    ok_then _ _ c.of_list.result (λ r g ms k p i. (g ms k).found p (alike_then p (path_of c.args.ways.now.reached) (path_of c.in_ok-copy.copy.reached) i c.in_ok-copy.ensures.reached)) c.of_list.ensures

pub of_inside-returns-clause-held : goal.of_inside-returns-clause-held
of_inside-returns-clause-held t c = IfOk-weaker c.of_list.result _ _ (λ r g ms k u. (g ms k).held u) c.of_list.ensures

pub of_rounds-returns : goal.of_rounds-returns
of_rounds-returns t c =
    on_ok_weaker c.go_round.result (λ w ms k.
    rounds_lead (effects_of c.args.at.now ms) (statements_at c.args.pool.now c.args.body.now) c.args.labelled c.new-round.result c.of_list.new.ways c.args.ways.now c.go_round.new.self c.if-labelled.false c.new-round.ensures
    (c.in_ok-of_list.ensures ms k).leads w) c.go_round.ensures

pub of_stmt-of_branches-requires : goal.of_stmt-of_branches-requires
of_stmt-of_branches-requires t c = (
  omega (arith, either_height c.in-Either.span c.in-Either.list, ap branch_heights c.deref-in-Either.ensures.value, ap height c.in-Either.is, c.decreases),
  omega (arith, past_either c.in-Either.span c.in-Either.list, ap past_branches c.deref-in-Either.ensures.value, ap past_stmt c.in-Either.is, c.requires),
)

pub of_stmt-returns-in-Label : goal.of_stmt-returns-in-Label
of_stmt-returns-in-Label t c = λ ms k j n at st e. absurd (not_label c.args.pool.now c.args.stmt.now c.in-Label.field-0 c.in-Label.field-1 c.in-Label.is at st e)

pub of_stmt-returns-in-Simple : goal.of_stmt-returns-in-Simple
of_stmt-returns-in-Simple t c =
    IfOk-weaker c.of_simple.result _ _ (λ b g ms k j n at st e.
    one_stands (effects_of c.args.at.now ms) c.args.spot j (stmt_at c.args.pool.now c.args.stmt.now) (span_of c.in-Simple.span) at (simple_at c.args.pool.now c.in-Simple.simple) st c.args.ways.now c.of_simple.new.ways
    c.args.found.now c.of_simple.new.found b (ap (stmt_at c.args.pool.now) c.in-Simple.is ∙ simple_in_list_at c.args.pool.now c.in-Simple.span c.in-Simple.simple) e
    (g ms k j n (span_of c.in-Simple.span) refl)) c.of_simple.ensures

pub of_stmt-returns-in_ok-join-in-If : goal.of_stmt-returns-in_ok-join-in-If
of_stmt-returns-in_ok-join-in-If t c = λ ms k j n at st e.
    if_stands c.args.at.now ms c.args.pool.now c.args.spot j c.args.stmt.now at st e c.in-If.span c.in-If.field-1 c.in-If.then c.in-If.otherwise c.deref.result.now c.deref-in-If.result.now
    c.args.ways.now c.in_ok-other-in-If.other c.of_list.new.ways c.of_list-in-If.new.ways c.join.new.self c.args.found.now c.tell.new.found c.of_list.new.found c.of_list-in-If.new.found
    c.in_ok-first-in-If.first c.in_ok-second-in-If.second c.behind_branches-in-If.result c.in-If.is c.deref.ensures.value c.deref-in-If.ensures.value c.in_ok-tell-in-If.ensures c.in_ok-other-in-If.ensures
    (c.in_ok-first-in-If.ensures ms k) (c.in_ok-second-in-If.ensures ms k) c.in_ok-join-in-If.ensures
    (behind_both c.behind_branches-in-If.result c.either.result c.in_ok-first-in-If.first c.in_ok-second-in-If.second c.behind_branches-in-If.ensures.held c.behind_branches-in-If.ensures.due c.either.ensures)

pub of_stmt-returns-in_ok-held-in-Either : goal.of_stmt-returns-in_ok-held-in-Either
of_stmt-returns-in_ok-held-in-Either t c = λ ms k j n at st e.
    either_stands c.args.at.now ms c.args.pool.now c.args.spot j c.args.stmt.now at st e c.in-Either.span c.in-Either.list c.deref-in-Either.result.now c.args.ways.now c.of_branches.new.ways
    c.args.found.now c.tell-in-Either.new.found c.of_branches.new.found c.in_ok-held-in-Either.held c.behind_branches-in-Either.result c.in-Either.is c.deref-in-Either.ensures.value c.in_ok-tell-in-Either.ensures
    (c.in_ok-held-in-Either.ensures ms k) (record { held = c.behind_branches-in-Either.ensures.held; due = c.behind_branches-in-Either.ensures.due })

pub of_stmt-returns-in_ok-held-in-With : goal.of_stmt-returns-in_ok-held-in-With
of_stmt-returns-in_ok-held-in-With t c = λ ms k j n at st e.
    with_stands c.args.at.now ms c.args.pool.now c.args.spot j c.args.stmt.now at st e c.in-With.span c.in-With.field-1 c.in-With.body c.deref-in-With.result.now c.args.ways.now c.of_list-in-With.new.ways
    c.args.found.now c.tell-in-With.new.found c.of_list-in-With.new.found c.in_ok-held-in-With.held c.behind_branches-in-With.result c.in-With.is c.deref-in-With.ensures.value c.in_ok-tell-in-With.ensures
    (c.in_ok-held-in-With.ensures ms k) (record { held = c.behind_branches-in-With.ensures.held; due = c.behind_branches-in-With.ensures.due })

pub of_stmt-returns-in_ok-held-in-While : goal.of_stmt-returns-in_ok-held-in-While
of_stmt-returns-in_ok-held-in-While t c = λ ms k j n at st e.
    while_stands c.args.at.now ms c.args.pool.now c.args.spot j c.args.stmt.now at st e c.in-While.span c.in-While.field-1 c.in-While.body c.deref-in-While.result.now c.deref-in-While-2.result.now
    c.args.ways.now c.of_rounds.new.ways c.args.found.now c.tell-in-While.new.found c.of_inside.new.found c.in_ok-held-in-While.held c.in-While.is c.deref-in-While.ensures.value c.deref-in-While-2.ensures.value
    c.in_ok-tell-in-While.ensures (c.in_ok-of_rounds-in-While.ensures ms k) (c.in_ok-held-in-While.ensures.told ms k) (c.in_ok-held-in-While.ensures.held ms k)
