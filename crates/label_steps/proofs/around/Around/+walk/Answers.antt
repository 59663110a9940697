-- Proves that the first variable that is assigned twice on a path is found.
use Rattle.std.proofs.Common.{◌+◌, List, Vec, Global, drop, refl, ap, ◌∙◌, subst, arith}
use Rattle.std.proofs.lemmas.Result.{on_ok_weaker}
use Rattle.tla_tree.specs.Tree.{Word}
use Rattle.tla_tree.proofs.PoolNumbers.{past_at}
use Rattle.pcal_tree.specs.declared.algorithm.Stmt.{Stmt}
use Rattle.pcal_tree.specs.Algorithm.{Branches}
use Rattle.pcal_tree.specs.InMemory.{span_of, past_stmt, past_statements, past_branches, simple_at, stmt_at, statements_at, branches_at}
use Rattle.pcal_tree.specs.Paths as paths
use Rattle.pcal_tree.proofs.EffectLaws.{Alike}
use Rattle.pcal_tree.proofs.InMemoryEach.{simple_in_list_at, past_either}
use Rattle.pcal_tree.proofs.StatementHeights.{height, heights, branch_heights, either_height}
use Rattle.label_steps.specs.PathsIn.{path_of, ends_of}
use Rattle.label_steps.specs.StraightPaths.{straight, straight_visits}
use Rattle.label_steps.specs.WalksIn.{IsKind, EndsSo}
use Rattle.label_steps.proofs.WalksLaws.{next_one, next_none, next_branch, next_no_branch, left_more, left_done, left_labelled, behind_first, behind_more, behind_label, behind_done, ArmsLeft, arms_first, arms_more, arms_done, arm_passed, taken, stays_behind, behind_then, still_alike, not_label, as_stands, if_stands, either_stands, with_stands, while_stands}
use Rattle.label_steps.proofs.around.Around.+walk.Goals as goal

pub arm-returns-clause-passed : goal.arm-returns-clause-passed
arm-returns-clause-passed t c = λ ms k E s p h.
    arm_passed c.args.self.now ms E p c.args.path.now (statements_at c.args.pool.now c.args.stmts.now) c.args.met.now c.list.new.met c.list.new.path c.args.before c.in_ok-ends.ends (c.in_ok-list.ensures.passed ms k E s p h)
    (subst (λ (xs : List Word). Alike (ends_of xs c.in_ok-ends.ends) (paths.joined (ends_of xs c.args.before) (path_of c.list.new.path)))
    (taken c.args.path.now.names.keys c.list.new.path.names.keys c.len-start.result c.len-start.ensures.len c.in_ok-list.ensures.kept) c.in_ok-ends.ensures.ends)

pub arms-loop-i-init : goal.arms-loop-i-init
arms-loop-i-init t c = record {
  names = refl;
  reached = refl;
  left = λ ms k E s p h. arms_first c.args.self.now ms E p c.args.path.now (branches_at c.args.pool.now c.args.list.now) c.args.met.now;
}

pub arms-arm-requires : goal.arms-arm-requires
arms-arm-requires t c =
    let less = past_at (λ (b : Vec Stmt Global). heights b.items) c.args.list.now c.loop-i.i c.index-list-i.result c.index-list-i.is c.loop-i-test.true in
    let within = past_at (λ (b : Vec Stmt Global). past_statements b.items) c.args.list.now c.loop-i.i c.index-list-i.result c.index-list-i.is c.loop-i-test.true in
    (omega (arith, less, ap heights c.deref.ensures.value, c.decreases), omega (arith, within, ap past_statements c.deref.ensures.value, c.requires))

pub arms-loop-i-preserved : goal.arms-loop-i-preserved
arms-loop-i-preserved t c = record {
  names = c.in_ok-ends.ensures.names ∙ c.loop-i.invariant.names;
  reached = c.in_ok-ends.ensures.reached ∙ c.loop-i.invariant.reached;
  left = λ ms k E s p h.
      let ts = c.args.pool.now in
      let b = c.index-list-i.result in
      arms_more c.args.self.now ms E p c.args.path.now (branches_at ts c.args.list.now) (branches_at ts (drop (c.loop-i.i + 1) c.args.list.now)) (statements_at ts b.items) c.args.met.now c.loop-i.met c.arm.new.met
      c.loop-i.ends c.in_ok-ends.ends c.loop-i.path c.loop-i.invariant.names
      (subst (λ (ss : List Stmt). EndsSo c.args.self.now ms c.loop-i.path (paths.joined (ends_of c.loop-i.path.names.keys c.loop-i.ends) (straight E (statements_at ts ss) p)) c.in_ok-ends.ends c.loop-i.met c.arm.new.met (straight_visits E p (statements_at ts ss)))
      c.deref.ensures.value
      (c.in_ok-ends.ensures.passed ms k E s p (still_alike p c.args.path.now c.loop-i.path c.loop-i.invariant.names c.loop-i.invariant.reached h)))
      (subst (λ (bs : Branches). ArmsLeft c.args.self.now ms E p c.args.path.now (branches_at ts c.args.list.now) c.args.met.now bs c.loop-i.ends c.loop-i.met)
      (next_branch ts c.args.list.now c.loop-i.i b c.index-list-i.is c.loop-i-test.true) (c.loop-i.invariant.left ms k E s p h));
}

pub arms-returns-clause-passed : goal.arms-returns-clause-passed
arms-returns-clause-passed t c = λ ms k E s p h.
    arms_done c.args.self.now ms E p c.args.path.now (branches_at c.args.pool.now c.args.list.now) (branches_at c.args.pool.now (drop c.loop-i.i c.args.list.now)) c.args.met.now c.loop-i.met c.loop-i.ends
    (next_no_branch c.args.pool.now c.args.list.now c.loop-i.i c.loop-i-test.false) (c.loop-i.invariant.left ms k E s p h)

pub behind-loop-i-init : goal.behind-loop-i-init
behind-loop-i-init t c = λ ms k E s. behind_first c.args.self.now ms E (statements_at c.args.pool.now (drop c.args.start c.args.stmts.now)) c.new-path.result c.args.met.now c.new-path.ensures.names c.new-path.ensures.reached

pub behind-past-requires : goal.behind-past-requires
behind-past-requires t c =
    let less = past_at height c.args.stmts.now c.loop-i.i c.index-stmts-i.result c.index-stmts-i.is c.loop-i-test.true in
    let within = past_at past_stmt c.args.stmts.now c.loop-i.i c.index-stmts-i.result c.index-stmts-i.is c.loop-i-test.true in
    (omega (arith, less, c.decreases), omega (arith, within, c.requires))

pub behind-loop-i-preserved-then-is_label : goal.behind-loop-i-preserved-then-is_label
behind-loop-i-preserved-then-is_label t c = λ ms k E s.
    let ts = c.args.pool.now in
    let kind = subst (λ b. IsKind b ts c.index-stmts-i.result) c.if-is_label.true (c.is_label.ensures ts) in
    behind_label c.args.self.now ms E _ c.args.met.now c.loop-i.met (statements_at ts (drop c.loop-i.i c.args.stmts.now)) (statements_at ts (drop (c.loop-i.i + 1) c.args.stmts.now)) (stmt_at ts c.index-stmts-i.result)
    c.loop-i.path c.new-path-then-is_label.result kind.0 kind.1 (next_one ts c.args.stmts.now c.loop-i.i c.index-stmts-i.result c.index-stmts-i.is c.loop-i-test.true) kind.2 c.new-path-then-is_label.ensures.names c.new-path-then-is_label.ensures.reached
    (c.loop-i.invariant ms k E s)

pub behind-loop-i-preserved : goal.behind-loop-i-preserved
behind-loop-i-preserved t c = λ ms k E s.
    let ts = c.args.pool.now in
    let kind = subst (λ b. IsKind b ts c.index-stmts-i.result) c.if-is_label.false (c.is_label.ensures ts) in
    behind_more c.args.self.now ms E _ c.args.met.now c.loop-i.met c.past.new.met (statements_at ts (drop c.loop-i.i c.args.stmts.now)) (statements_at ts (drop (c.loop-i.i + 1) c.args.stmts.now)) (stmt_at ts c.index-stmts-i.result)
    c.loop-i.path c.past.new.path kind.0 kind.1 (next_one ts c.args.stmts.now c.loop-i.i c.index-stmts-i.result c.index-stmts-i.is c.loop-i-test.true) kind.2
    (λ p h j r. c.in_ok-past.ensures.passed kind.0 kind.1 kind.2 ms k E s p h j (c.returns_behind-returns.ensures ts ∙ r)) (c.loop-i.invariant ms k E s)

pub behind-returns : goal.behind-returns
behind-returns t c = λ ms k E s.
    behind_done c.args.self.now ms E _ c.args.met.now c.loop-i.met (statements_at c.args.pool.now (drop c.loop-i.i c.args.stmts.now)) c.loop-i.path (next_none c.args.pool.now c.args.stmts.now c.loop-i.i c.loop-i-test.false) (c.loop-i.invariant ms k E s)

pub list-returns-then-is_label-clause-passed : goal.list-returns-then-is_label-clause-passed
list-returns-then-is_label-clause-passed t c =
    on_ok_weaker c.behind.result (λ g ms k E s p h.
    let ts = c.args.pool.now in
    let kind = subst (λ b. IsKind b ts c.index-stmts-i.result) c.if-is_label.true (c.is_label.ensures ts) in
    left_labelled c.args.self.now ms E _ _ c.args.met.now c.loop-i.met c.behind.new.met (statements_at ts (drop c.loop-i.i c.args.stmts.now)) (statements_at ts (drop (c.loop-i.i + 1) c.args.stmts.now)) (stmt_at ts c.index-stmts-i.result)
    c.loop-i.path kind.0 kind.1 (next_one ts c.args.stmts.now c.loop-i.i c.index-stmts-i.result c.index-stmts-i.is c.loop-i-test.true) kind.2 (g ms k E s) (c.loop-i.invariant.left ms k E s p h)) c.behind.ensures

pub list-past-requires : goal.list-past-requires
list-past-requires t c =
    let less = past_at height c.args.stmts.now c.loop-i.i c.index-stmts-i.result c.index-stmts-i.is c.loop-i-test.true in
    let within = past_at past_stmt c.args.stmts.now c.loop-i.i c.index-stmts-i.result c.index-stmts-i.is c.loop-i-test.true in
    (omega (arith, less, c.decreases), omega (arith, within, c.requires))

pub list-loop-i-preserved : goal.list-loop-i-preserved
list-loop-i-preserved t c = record {
  kept =
      behind_then c.args.path.now.names.keys c.loop-i.path.names.keys c.past.new.path.names.keys c.loop-i.invariant.kept
      (let kind = subst (λ b. IsKind b c.args.pool.now c.index-stmts-i.result) c.if-is_label.false (c.is_label.ensures c.args.pool.now) in c.in_ok-past.ensures.kept kind.0 kind.1 kind.2);
  left = λ ms k E s p h.
      let ts = c.args.pool.now in
      let kind = subst (λ b. IsKind b ts c.index-stmts-i.result) c.if-is_label.false (c.is_label.ensures ts) in
      left_more c.args.self.now ms E _ _ c.args.met.now c.loop-i.met c.past.new.met (statements_at ts (drop c.loop-i.i c.args.stmts.now)) (statements_at ts (drop (c.loop-i.i + 1) c.args.stmts.now)) (stmt_at ts c.index-stmts-i.result)
      c.loop-i.path c.past.new.path kind.0 kind.1 (next_one ts c.args.stmts.now c.loop-i.i c.index-stmts-i.result c.index-stmts-i.is c.loop-i-test.true) kind.2
      (λ q z j r. c.in_ok-past.ensures.passed kind.0 kind.1 kind.2 ms k E s q z j (c.returns_behind-returns.ensures ts ∙ r)) (c.loop-i.invariant.left ms k E s p h);
}

pub list-returns-clause-passed : goal.list-returns-clause-passed
list-returns-clause-passed t c = λ ms k E s p h.
    left_done c.args.self.now ms E _ _ c.args.met.now c.loop-i.met (statements_at c.args.pool.now (drop c.loop-i.i c.args.stmts.now)) c.loop-i.path (next_none c.args.pool.now c.args.stmts.now c.loop-i.i c.loop-i-test.false) (c.loop-i.invariant.left ms k E s p h)

pub past-arms-requires : goal.past-arms-requires
past-arms-requires t c = (
  omega (arith, either_height c.in-Either.field-0 c.in-Either.list, ap branch_heights c.deref-in-Either.ensures.value, ap height c.in-Either.is, c.decreases),
  omega (arith, past_either c.in-Either.field-0 c.in-Either.list, ap past_branches c.deref-in-Either.ensures.value, ap past_stmt c.in-Either.is, c.requires),
)

pub past-returns-in-Label-clause-kept : goal.past-returns-in-Label-clause-kept
past-returns-in-Label-clause-kept t c = λ at st e. absurd (not_label c.args.pool.now c.args.stmt.now c.in-Label.field-0 c.in-Label.field-1 c.in-Label.is at st e)

pub past-returns-in-Label-clause-passed : goal.past-returns-in-Label-clause-passed
past-returns-in-Label-clause-passed t c = λ at st e. absurd (not_label c.args.pool.now c.args.stmt.now c.in-Label.field-0 c.in-Label.field-1 c.in-Label.is at st e)

pub past-returns-in-Simple-clause-passed : goal.past-returns-in-Simple-clause-passed
past-returns-in-Simple-clause-passed t c =
    on_ok_weaker c.simple.result (λ w at st e.
    as_stands c.args.self.now c.args.returns c.args.path.now c.simple.new.path c.args.met.now c.simple.new.met (stmt_at c.args.pool.now c.args.stmt.now) (span_of c.in-Simple.span) at
    (simple_at c.args.pool.now c.in-Simple.simple) st (ap (stmt_at c.args.pool.now) c.in-Simple.is ∙ simple_in_list_at c.args.pool.now c.in-Simple.span c.in-Simple.simple) e (w (span_of c.in-Simple.span) refl)) c.simple.ensures.passed

pub past-returns-in_ok-second-in-If-clause-passed : goal.past-returns-in_ok-second-in-If-clause-passed
past-returns-in_ok-second-in-If-clause-passed t c =
    on_ok_weaker c.close.result (λ close.
    if_stands c.args.self.now c.args.pool.now c.args.returns c.args.path.now c.close.new.self c.in-If.field-0 c.in-If.field-1 c.in-If.then c.in-If.otherwise c.deref.result.now c.deref-in-If.result.now c.arm.new.path c.arm-in-If.new.path
    c.args.met.now c.arm.new.met c.arm-in-If.new.met c.in_ok-first-in-If.first c.in_ok-second-in-If.second c.args.stmt.now c.in-If.is c.deref.ensures.value c.deref-in-If.ensures.value
    c.in_ok-first-in-If.ensures.passed c.in_ok-first-in-If.ensures.names c.in_ok-first-in-If.ensures.reached c.in_ok-second-in-If.ensures.passed c.in_ok-second-in-If.ensures.names close) c.close.ensures.path

pub past-returns-in_ok-ends-in-Either-clause-passed : goal.past-returns-in_ok-ends-in-Either-clause-passed
past-returns-in_ok-ends-in-Either-clause-passed t c =
    on_ok_weaker c.close-in-Either.result (λ close.
    either_stands c.args.self.now c.args.pool.now c.args.returns c.args.path.now c.close-in-Either.new.self c.in-Either.field-0 c.in-Either.list c.deref-in-Either.result.now c.arms.new.path c.args.met.now c.arms.new.met
    c.in_ok-ends-in-Either.ends c.args.stmt.now c.in-Either.is c.deref-in-Either.ensures.value c.in_ok-ends-in-Either.ensures.passed c.in_ok-ends-in-Either.ensures.names close) c.close-in-Either.ensures.path

pub past-returns-in-With-clause-passed : goal.past-returns-in-With-clause-passed
past-returns-in-With-clause-passed t c =
    on_ok_weaker c.list.result (λ all.
    with_stands c.args.self.now c.args.pool.now c.args.returns c.args.path.now c.list.new.path c.in-With.field-0 c.in-With.field-1 c.in-With.body c.deref-in-With.result.now c.args.met.now c.list.new.met c.args.stmt.now c.in-With.is
    c.deref-in-With.ensures.value all) c.list.ensures.passed

pub past-returns-in_ok-arm-in-While-clause-kept : goal.past-returns-in_ok-arm-in-While-clause-kept
past-returns-in_ok-arm-in-While-clause-kept t c = λ at st e. stays_behind c.args.path.now.names.keys c.arm-in-While.new.path.names.keys c.in_ok-arm-in-While.ensures.names

pub past-returns-in_ok-arm-in-While-clause-passed : goal.past-returns-in_ok-arm-in-While-clause-passed
past-returns-in_ok-arm-in-While-clause-passed t c =
    while_stands c.args.self.now c.args.pool.now c.args.returns c.args.path.now c.arm-in-While.new.path c.in-While.field-0 c.in-While.field-1 c.in-While.body c.deref-in-While.result.now c.args.met.now c.arm-in-While.new.met
    c.in_ok-arm-in-While.field-0 c.args.stmt.now c.in-While.is c.deref-in-While.ensures.value c.in_ok-arm-in-While.ensures.passed c.in_ok-arm-in-While.ensures.names c.in_ok-arm-in-While.ensures.reached
