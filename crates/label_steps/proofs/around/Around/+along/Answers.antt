-- Proves that what a macro assigns on all its paths is gathered.
use Rattle.std.proofs.Common.{◌+◌, true, false, List, Vec, Global, drop, refl, ap, ◌∙◌, subst, arith}
use Rattle.std.proofs.lemmas.Result.{on_ok_weaker}
use Rattle.tla_tree.proofs.PoolNumbers.{past_at}
use Rattle.pcal_tree.specs.declared.algorithm.Stmt.{Stmt}
use Rattle.pcal_tree.specs.Algorithm.{Branches}
use Rattle.pcal_tree.specs.InMemory.{span_of, past_stmt, past_statements, past_branches, simple_at, stmt_at, statements_at, branches_at}
use Rattle.pcal_tree.specs.laws.MacroSummaries.{found_here}
use Rattle.pcal_tree.proofs.InMemoryEach.{simple_in_list_at, past_either}
use Rattle.pcal_tree.proofs.StatementHeights.{height, heights, branch_heights, either_height}
use Rattle.label_steps.specs.Gathered.{assigning}
use Rattle.label_steps.specs.PathsIn.{path_of}
use Rattle.label_steps.specs.WalksIn.{IsKind}
use Rattle.label_steps.specs.WaysIn.{GoesAll}
use Rattle.label_steps.proofs.WalksLaws.{next_one, next_none, next_branch, next_no_branch, not_label, alike_then}
use Rattle.label_steps.proofs.WaysLaws.{rounds_lead, SomeLeft, left_first, left_more, left_labelled, left_done, some_first, some_more, some_done, one_stands, if_stands, either_stands, with_stands, while_stands}
use Rattle.label_steps.proofs.around.Around.+along.Goals as goal

pub along-loop-i-init : goal.along-loop-i-init
along-loop-i-init t c = λ ms k name own. left_first c.args.self.now.known (found_here ms) (statements_at c.args.pool.now c.args.stmts.now) c.args.ways.now c.args.found.now false refl

pub along-loop-i-preserved-then-is_label : goal.along-loop-i-preserved-then-is_label
along-loop-i-preserved-then-is_label t c = λ ms k name own.
    let ts = c.args.pool.now in
    let kind = subst (λ b. IsKind b ts c.index-stmts-i.result) c.if-is_label.true (c.is_label.ensures ts) in
    left_labelled c.args.self.now.known (found_here ms) (statements_at ts c.args.stmts.now) c.args.ways.now c.args.found.now c.loop-i.found (statements_at ts (drop c.loop-i.i c.args.stmts.now))
    (statements_at ts (drop (c.loop-i.i + 1) c.args.stmts.now)) (stmt_at ts c.index-stmts-i.result) c.loop-i.labelled c.loop-i.ways c.behind_label.result kind.0 kind.1
    (next_one ts c.args.stmts.now c.loop-i.i c.index-stmts-i.result c.index-stmts-i.is c.loop-i-test.true) kind.2 c.behind_label.ensures (c.loop-i.invariant ms k name own) true refl

pub along-along_stmt-requires : goal.along-along_stmt-requires
along-along_stmt-requires t c =
    let less = past_at height c.args.stmts.now c.loop-i.i c.index-stmts-i.result c.index-stmts-i.is c.loop-i-test.true in
    let within = past_at past_stmt c.args.stmts.now c.loop-i.i c.index-stmts-i.result c.index-stmts-i.is c.loop-i-test.true in
    (omega (arith, less, c.decreases), omega (arith, within, c.requires))

pub along-loop-i-preserved : goal.along-loop-i-preserved
along-loop-i-preserved t c = λ ms k name own.
    let ts = c.args.pool.now in
    let kind = subst (λ b. IsKind b ts c.index-stmts-i.result) c.if-is_label.false (c.is_label.ensures ts) in
    left_more c.args.self.now.known (found_here ms) (statements_at ts c.args.stmts.now) c.args.ways.now c.args.found.now c.loop-i.found c.along_stmt.new.found (statements_at ts (drop c.loop-i.i c.args.stmts.now))
    (statements_at ts (drop (c.loop-i.i + 1) c.args.stmts.now)) (stmt_at ts c.index-stmts-i.result) c.loop-i.labelled c.loop-i.ways c.along_stmt.new.ways kind.0 kind.1
    (next_one ts c.args.stmts.now c.loop-i.i c.index-stmts-i.result c.index-stmts-i.is c.loop-i-test.true) kind.2 (c.in_ok-along_stmt.ensures kind.0 kind.1 kind.2 ms k name own) (c.loop-i.invariant ms k name own) false refl

pub along-returns : goal.along-returns
along-returns t c = λ ms k name own.
    left_done c.args.self.now.known (found_here ms) (statements_at c.args.pool.now c.args.stmts.now) c.args.ways.now c.args.found.now c.loop-i.found (statements_at c.args.pool.now (drop c.loop-i.i c.args.stmts.now))
    c.loop-i.labelled c.loop-i.ways (next_none c.args.pool.now c.args.stmts.now c.loop-i.i c.loop-i-test.false) (c.loop-i.invariant ms k name own)

pub along_branches-loop-i-init : goal.along_branches-loop-i-init
along_branches-loop-i-init t c = λ ms k name own.
    some_first c.args.self.now.known (found_here ms) (branches_at c.args.pool.now c.args.list.now) c.args.ways.now c.none-ends.result c.args.found.now c.none-ends.ensures

pub along_branches-along-requires : goal.along_branches-along-requires
along_branches-along-requires t c =
    let less = past_at (λ (b : Vec Stmt Global). heights b.items) c.args.list.now c.loop-i.i c.index-list-i.result c.index-list-i.is c.loop-i-test.true in
    let within = past_at (λ (b : Vec Stmt Global). past_statements b.items) c.args.list.now c.loop-i.i c.index-list-i.result c.index-list-i.is c.loop-i-test.true in
    (omega (arith, less, ap heights c.deref.ensures.value, c.decreases), omega (arith, within, ap past_statements c.deref.ensures.value, c.requires))

pub along_branches-loop-i-preserved : goal.along_branches-loop-i-preserved
along_branches-loop-i-preserved t c = λ ms k name own.
    let ts = c.args.pool.now in
    let b = c.index-list-i.result in
    some_more c.args.self.now.known (found_here ms) (branches_at ts c.args.list.now) (branches_at ts (drop (c.loop-i.i + 1) c.args.list.now)) (statements_at ts b.items) c.args.ways.now c.in_ok-one.one c.along.new.ways
    c.loop-i.ends c.join.new.self c.args.found.now c.loop-i.found c.along.new.found c.in_ok-one.ensures
    (subst (λ (ss : List Stmt). GoesAll c.args.self.now.known (found_here ms) (statements_at ts ss) c.in_ok-one.one c.along.new.ways c.loop-i.found c.along.new.found) c.deref.ensures.value (c.in_ok-along.ensures ms k name own))
    c.in_ok-join.ensures
    (subst (λ (bs : Branches). SomeLeft c.args.self.now.known (found_here ms) (branches_at ts c.args.list.now) c.args.ways.now c.args.found.now bs c.loop-i.ends c.loop-i.found)
    (next_branch ts c.args.list.now c.loop-i.i b c.index-list-i.is c.loop-i-test.true) (c.loop-i.invariant ms k name own))

pub along_branches-returns : goal.along_branches-returns
along_branches-returns t c = λ ms k name own.
    some_done c.args.self.now.known (found_here ms) (branches_at c.args.pool.now c.args.list.now) (branches_at c.args.pool.now (drop c.loop-i.i c.args.list.now)) c.args.ways.now c.loop-i.ends c.args.found.now c.loop-i.found
    (next_no_branch c.args.pool.now c.args.list.now c.loop-i.i c.loop-i-test.false) (c.loop-i.invariant ms k name own)

pub along_inside-returns : goal.along_inside-returns
along_inside-returns t c =
    on_ok_weaker c.along.result (λ g ms k name own p i.
    (g ms k name own).found p (alike_then p (path_of c.args.ways.now.reached) (path_of c.in_ok-copy.copy.reached) i c.in_ok-copy.ensures.reached)) c.along.ensures

pub along_rounds-returns : goal.along_rounds-returns
along_rounds-returns t c =
    on_ok_weaker c.go_round.result (λ w ms k name own.
    rounds_lead (assigning (found_here ms)) (statements_at c.args.pool.now c.args.body.now) c.args.labelled c.new-round.result c.along.new.ways c.args.ways.now c.go_round.new.self c.if-labelled.false c.new-round.ensures
    (c.in_ok-along.ensures ms k name own).leads w) c.go_round.ensures

pub along_stmt-along_branches-requires : goal.along_stmt-along_branches-requires
along_stmt-along_branches-requires t c = (
  omega (arith, either_height c.in-Either.field-0 c.in-Either.list, ap branch_heights c.deref-in-Either.ensures.value, ap height c.in-Either.is, c.decreases),
  omega (arith, past_either c.in-Either.field-0 c.in-Either.list, ap past_branches c.deref-in-Either.ensures.value, ap past_stmt c.in-Either.is, c.requires),
)

pub along_stmt-returns-in-Label : goal.along_stmt-returns-in-Label
along_stmt-returns-in-Label t c = λ at st e. absurd (not_label c.args.pool.now c.args.stmt.now c.in-Label.field-0 c.in-Label.field-1 c.in-Label.is at st e)

pub along_stmt-returns-in-Simple : goal.along_stmt-returns-in-Simple
along_stmt-returns-in-Simple t c =
    on_ok_weaker c.along_simple.result (λ g at st e ms k name own.
    one_stands c.args.self.now.known (found_here ms) c.args.labelled (stmt_at c.args.pool.now c.args.stmt.now) (span_of c.in-Simple.field-0) at (simple_at c.args.pool.now c.in-Simple.simple) st c.args.ways.now c.along_simple.new.ways
    c.args.found.now c.along_simple.new.found (ap (stmt_at c.args.pool.now) c.in-Simple.is ∙ simple_in_list_at c.args.pool.now c.in-Simple.field-0 c.in-Simple.simple) e
    (g ms k name own c.args.labelled (span_of c.in-Simple.field-0))) c.along_simple.ensures

pub along_stmt-returns-in_ok-along-in-If-2 : goal.along_stmt-returns-in_ok-along-in-If-2
along_stmt-returns-in_ok-along-in-If-2 t c =
    on_ok_weaker c.join.result (λ w at st e ms k name own.
    if_stands c.args.self.now.known (found_here ms) c.args.pool.now c.args.labelled c.args.ways.now c.join.new.self c.args.stmt.now at st e c.in-If.field-0 c.in-If.field-1 c.in-If.then c.in-If.otherwise c.deref.result.now c.deref-in-If.result.now
    c.in_ok-other-in-If.other c.along.new.ways c.along-in-If.new.ways c.args.found.now c.along.new.found c.along-in-If.new.found c.in-If.is c.deref.ensures.value c.deref-in-If.ensures.value refl
    c.in_ok-other-in-If.ensures (c.in_ok-along-in-If.ensures ms k name own) (c.in_ok-along-in-If-2.ensures ms k name own) w) c.join.ensures

pub along_stmt-returns-in_ok-ways-in-Either : goal.along_stmt-returns-in_ok-ways-in-Either
along_stmt-returns-in_ok-ways-in-Either t c = λ at st e ms k name own.
    either_stands c.args.self.now.known (found_here ms) c.args.pool.now c.args.labelled c.args.ways.now c.in_ok-ways-in-Either.field-0 c.args.stmt.now at st e c.in-Either.field-0 c.in-Either.list c.deref-in-Either.result.now
    c.args.found.now c.along_branches.new.found c.in-Either.is c.deref-in-Either.ensures.value refl (c.in_ok-ways-in-Either.ensures ms k name own)

pub along_stmt-returns-in-With : goal.along_stmt-returns-in-With
along_stmt-returns-in-With t c =
    on_ok_weaker c.along-in-With.result (λ g at st e ms k name own.
    with_stands c.args.self.now.known (found_here ms) c.args.pool.now c.args.labelled c.args.ways.now c.along-in-With.new.ways c.args.stmt.now at st e c.in-With.field-0 c.in-With.field-1 c.in-With.body c.deref-in-With.result.now
    c.args.found.now c.along-in-With.new.found c.in-With.is c.deref-in-With.ensures.value refl (g ms k name own)) c.along-in-With.ensures

pub along_stmt-returns-in_ok-along_rounds-in-While :
    goal.along_stmt-returns-in_ok-along_rounds-in-While
along_stmt-returns-in_ok-along_rounds-in-While t c =
    on_ok_weaker c.along_inside.result (λ g at st e ms k name own.
    while_stands c.args.self.now.known (found_here ms) c.args.pool.now c.args.labelled c.args.ways.now c.along_rounds.new.ways c.args.stmt.now at st e c.in-While.field-0 c.in-While.field-1 c.in-While.body c.deref-in-While.result.now
    c.deref-in-While-2.result.now c.args.found.now c.along_inside.new.found c.in-While.is c.deref-in-While.ensures.value c.deref-in-While-2.ensures.value refl (c.in_ok-along_rounds-in-While.ensures ms k name own) (g ms k name own))
    c.along_inside.ensures
