-- Proves that what is missing inside a `with` is found, and the path behind it.
use Rattle.std.proofs.Common.{◌+◌, ◌||◌, List, Vec, Global, drop, sym, ap, ◌∙◌, subst, arith}
use Rattle.tla_tree.proofs.PoolNumbers.{past_at}
use Rattle.pcal_tree.specs.declared.algorithm.Stmt.{Stmt}
use Rattle.pcal_tree.specs.Algorithm.{Branches, Statements}
use Rattle.pcal_tree.specs.InMemory.{past_stmt, past_statements, past_branches, stmt_at, statements_at, branches_at}
use Rattle.pcal_tree.proofs.InMemoryEach.{past_either}
use Rattle.pcal_tree.proofs.StatementHeights.{height, heights, branch_heights, either_height}
use Rattle.label_steps.proofs.WalksLaws.{next_one, next_none, next_branch, next_no_branch, not_label, taken}
use Rattle.pcal_tree.specs.OffencesSteps.{holds}
use Rattle.added_labels.specs.declared.seen.Seen.{Seen}
use Rattle.added_labels.specs.Sight.{effects_of, SeesBranch, SeesList}
use Rattle.added_labels.proofs.SightLaws.{branch_sees, one_left, all_left, BranchesLeft, ListLeft, list_ends, if_ok_then, quiet, simple_stands, if_stands, either_stands, with_stands, while_stands, label_left, label_held, one_more, one_held, kept_begins, kept_passed, none_kept, is_label, is_statement}
use Rattle.added_labels.proofs.seen.Where.+within.Goals as goal

pub one-branches-requires : goal.one-branches-requires
one-branches-requires t c = (
  omega (arith, either_height c.in-Either.field-0 c.in-Either.list, ap branch_heights c.deref-in-Either.ensures.value, ap height c.in-Either.is, c.decreases),
  omega (arith, past_either c.in-Either.field-0 c.in-Either.list, ap past_branches c.deref-in-Either.ensures.value, ap past_stmt c.in-Either.is, c.requires),
)

pub branches-branch-self-requires : goal.branches-branch-self-requires
branches-branch-self-requires t c =
    let less = past_at (λ (b : Vec Stmt Global). heights b.items) c.args.list.now c.loop-i.i c.index-list-i.result c.index-list-i.is c.loop-i-test.true in
    let within = past_at (λ (b : Vec Stmt Global). past_statements b.items) c.args.list.now c.loop-i.i c.index-list-i.result c.index-list-i.is c.loop-i-test.true in
    (omega (arith, less, ap heights c.deref.ensures.value, c.decreases), omega (arith, within, ap past_statements c.deref.ensures.value, c.requires))

pub list-one-requires : goal.list-one-requires
list-one-requires t c =
    let less = past_at height c.args.stmts.now c.loop-i.i c.index-stmts-i.result c.index-stmts-i.is c.loop-i-test.true in
    let within = past_at past_stmt c.args.stmts.now c.loop-i.i c.index-stmts-i.result c.index-stmts-i.is c.loop-i-test.true in
    (omega (arith, less, c.decreases), omega (arith, within, c.requires))

pub branch-returns-clause-sees : goal.branch-returns-clause-sees
branch-returns-clause-sees t c = λ ms a.
    branch_sees _ (statements_at c.args.pool.now c.args.stmts.now) c.args.path.now c.list.new.path c.args.seen c.end.result c.in_ok-inner.inner c.args.ends c.in_ok-all.all _ c.end.ensures (c.in_ok-inner.ensures.sees ms a)
    (taken c.args.path.now.names.keys c.list.new.path.names.keys c.len-start.result c.len-start.ensures.len c.in_ok-inner.ensures.kept) c.in_ok-all.ensures.ends

pub one-returns-in-Label-clause-sees : goal.one-returns-in-Label-clause-sees
one-returns-in-Label-clause-sees t c = λ ms a j n s st e. absurd (not_label c.args.pool.now c.args.stmt.now c.in-Label.field-0 c.in-Label.field-1 c.in-Label.is s st e)

pub one-returns-in-Simple-clause-sees : goal.one-returns-in-Simple-clause-sees
one-returns-in-Simple-clause-sees t c =
    if_ok_then _ _ c.simple.result (λ r h ms a j n s st e.
    simple_stands (effects_of c.args.self.now ms) (quiet c.args.self.now ms) c.args.pool.now j c.args.path.now c.simple.new.path c.args.seen r c.args.stmt.now s st e c.in-Simple.field-0 c.in-Simple.simple c.in-Simple.is (h ms a j n)) c.simple.ensures.sees

pub one-returns-in_ok-close-in-If-clause-sees : goal.one-returns-in_ok-close-in-If-clause-sees
one-returns-in_ok-close-in-If-clause-sees t c = λ ms a j n s st e.
    if_stands (effects_of c.args.self.now ms) (quiet c.args.self.now ms) c.args.pool.now j c.args.path.now c.close.new.self c.args.seen c.out.result c.args.stmt.now s st e
    c.in-If.field-0 c.in-If.field-1 c.in-If.then c.in-If.otherwise c.deref.result.now c.deref-in-If.result.now c.branch-self.new.path c.branch-self-in-If.new.path c.into.result c.in_ok-first-in-If.first c.in_ok-second-in-If.second
    c.in_ok-first-in-If.ends c.in_ok-second-in-If.all c.in-If.is c.deref.ensures.value c.deref-in-If.ensures.value c.into.ensures
    (c.in_ok-first-in-If.ensures.sees ms a) c.in_ok-first-in-If.ensures.names c.in_ok-first-in-If.ensures.reached (c.in_ok-second-in-If.ensures.sees ms a) c.in_ok-second-in-If.ensures.names c.in_ok-close-in-If.ensures.path c.out.ensures

pub one-returns-in_ok-close-in-Either-clause-sees : goal.one-returns-in_ok-close-in-Either-clause-sees
one-returns-in_ok-close-in-Either-clause-sees t c = λ ms a j n s st e.
    either_stands (effects_of c.args.self.now ms) (quiet c.args.self.now ms) c.args.pool.now j c.args.path.now c.close-in-Either.new.self c.args.seen c.out-in-Either.result c.args.stmt.now s st e
    c.in-Either.field-0 c.in-Either.list c.deref-in-Either.result.now c.branches.new.path c.into-in-Either.result c.in_ok-inner-in-Either.inner c.in_ok-inner-in-Either.ends c.in-Either.is c.deref-in-Either.ensures.value c.into-in-Either.ensures
    (c.in_ok-inner-in-Either.ensures.sees ms a) c.in_ok-inner-in-Either.ensures.names c.in_ok-close-in-Either.ensures.path c.out-in-Either.ensures

pub one-returns-in_ok-inner-in-With-clause-sees : goal.one-returns-in_ok-inner-in-With-clause-sees
one-returns-in_ok-inner-in-With-clause-sees t c = λ ms a j n s st e.
    with_stands (effects_of c.args.self.now ms) (quiet c.args.self.now ms) c.args.pool.now j c.args.path.now c.list.new.path c.args.seen c.out-in-With.result c.args.stmt.now s st e
    c.in-With.field-0 c.in-With.field-1 c.in-With.body c.deref-in-With.result.now c.into-in-With.result c.in_ok-inner-in-With.inner c.in-With.is c.deref-in-With.ensures.value c.into-in-With.ensures
    (c.in_ok-inner-in-With.ensures.sees ms a) c.out-in-With.ensures

pub one-returns-in_ok-round-in-While-clause-sees : goal.one-returns-in_ok-round-in-While-clause-sees
one-returns-in_ok-round-in-While-clause-sees t c = λ ms a j n s st e.
    while_stands (effects_of c.args.self.now ms) (quiet c.args.self.now ms) c.args.pool.now j c.args.path.now c.round.new.path c.args.seen c.out-in-While.result c.args.stmt.now s st e
    c.in-While.field-0 c.in-While.field-1 c.in-While.body c.deref-in-While.result.now c.branch-self-in-While.new.path c.into-in-While.result c.in_ok-inner-in-While.inner c.in_ok-inner-in-While.ends c.in-While.is c.deref-in-While.ensures.value
    c.into-in-While.ensures (c.in_ok-inner-in-While.ensures.sees ms a) c.in_ok-inner-in-While.ensures.names c.in_ok-inner-in-While.ensures.reached c.in_ok-round-in-While.ensures.path c.out-in-While.ensures

pub branches-loop-i-preserved : goal.branches-loop-i-preserved
branches-loop-i-preserved t c = record {
  names = c.in_ok-next.ensures.names ∙ c.loop-i.invariant.names;
  reached = c.in_ok-next.ensures.reached ∙ c.loop-i.invariant.reached;
  left = λ ms a.
      let ts = c.args.pool.now in
      let b = c.index-list-i.result in
      let E = effects_of c.args.self.now ms in
      one_left E (branches_at ts c.args.list.now) (statements_at ts b.items) (branches_at ts (drop (c.loop-i.i + 1) c.args.list.now)) c.args.path.now c.loop-i.path c.args.seen c.loop-i.so_far c.in_ok-next.next c.loop-i.ends c.in_ok-next.all
      c.loop-i.invariant.names c.loop-i.invariant.reached
      (subst (λ (z : Branches). BranchesLeft E (branches_at ts c.args.list.now) z c.args.path.now c.args.seen c.loop-i.so_far c.loop-i.ends) (next_branch ts c.args.list.now c.loop-i.i b c.index-list-i.is c.loop-i-test.true) (c.loop-i.invariant.left ms a))
      (subst (λ (ss : List Stmt). SeesBranch E (statements_at ts ss) c.loop-i.path c.loop-i.ends c.loop-i.so_far c.in_ok-next.next c.in_ok-next.all) c.deref.ensures.value (c.in_ok-next.ensures.sees ms a));
}

pub branches-returns-clause-sees : goal.branches-returns-clause-sees
branches-returns-clause-sees t c = λ ms a.
    let ts = c.args.pool.now in
    let E = effects_of c.args.self.now ms in
    all_left E (branches_at ts c.args.list.now) c.args.path.now c.args.seen c.loop-i.so_far c.loop-i.ends
    (subst (λ (z : Branches). BranchesLeft E (branches_at ts c.args.list.now) z c.args.path.now c.args.seen c.loop-i.so_far c.loop-i.ends) (next_no_branch ts c.args.list.now c.loop-i.i c.loop-i-test.false) (c.loop-i.invariant.left ms a))

pub list-loop-i-preserved-then-is_none : goal.list-loop-i-preserved-then-is_none
list-loop-i-preserved-then-is_none t c =
    let ts = c.args.pool.now in
    let b = statements_at ts c.args.stmts.now in
    let now = statements_at ts (drop c.loop-i.i c.args.stmts.now) in
    let rest = statements_at ts (drop (c.loop-i.i + 1) c.args.stmts.now) in
    let f = stmt_at ts c.index-stmts-i.result in
    let is = next_one ts c.args.stmts.now c.loop-i.i c.index-stmts-i.result c.index-stmts-i.is c.loop-i-test.true in
    let k = is_label c.place_of.result c.is_none.result f (c.place_of.ensures ts) c.is_none.ensures c.if-is_none.true in
    record {
      kept = kept_begins c.args.path.now c.loop-i.path c.begin-kept.new.path c.loop-i.kept c.begin-kept.result c.loop-i.invariant.kept c.begin-kept.ensures;
      held = λ ms a. label_held (effects_of c.args.self.now ms) b now rest f is c.args.path.now c.loop-i.path c.begin-kept.new.path c.loop-i.kept c.begin-kept.result c.args.seen c.loop-i.so_far c.label-so_far.result k.0 k.1 k.2 c.label-so_far.ensures (c.loop-i.invariant.held ms a);
      left = λ ms a p s.
          label_left (effects_of c.args.self.now ms) b now rest f is c.args.path.now c.loop-i.path c.begin-kept.new.path c.loop-i.kept c.begin-kept.result c.args.seen c.loop-i.so_far c.label-so_far.result k.0 k.1 k.2 c.begin-kept.ensures c.label-so_far.ensures p (c.loop-i.invariant.left ms a p s);
    }

pub list-loop-i-preserved : goal.list-loop-i-preserved
list-loop-i-preserved t c =
    let ts = c.args.pool.now in
    let b = statements_at ts c.args.stmts.now in
    let now = statements_at ts (drop c.loop-i.i c.args.stmts.now) in
    let rest = statements_at ts (drop (c.loop-i.i + 1) c.args.stmts.now) in
    let f = stmt_at ts c.index-stmts-i.result in
    let is = next_one ts c.args.stmts.now c.loop-i.i c.index-stmts-i.result c.index-stmts-i.is c.loop-i-test.true in
    let k = is_statement c.place_of.result c.is_none.result f (c.place_of.ensures ts) c.is_none.ensures c.if-is_none.false in
    record {
      kept = kept_passed c.args.path.now c.loop-i.path c.one.new.path c.loop-i.kept c.loop-i.invariant.kept c.in_ok-so_far.ensures.kept;
      held = λ ms a. one_held (effects_of c.args.self.now ms) b now rest f is c.args.path.now c.loop-i.path c.one.new.path c.loop-i.kept c.loop-i.kept c.args.seen c.loop-i.so_far c.in_ok-so_far.so_far k.0 k.1 k.2
          (c.in_ok-so_far.ensures.sees ms a _ (c.next_of.ensures ts) k.0 k.1 k.2) (c.loop-i.invariant.held ms a);
      left = λ ms a p s.
          one_more (effects_of c.args.self.now ms) b now rest f is c.args.path.now c.loop-i.path c.one.new.path c.loop-i.kept c.loop-i.kept c.args.seen c.loop-i.so_far c.in_ok-so_far.so_far k.0 k.1 k.2
          (c.in_ok-so_far.ensures.sees ms a _ (c.next_of.ensures ts) k.0 k.1 k.2) p (c.loop-i.invariant.left ms a p s);
    }

pub list-returns-clause-sees : goal.list-returns-clause-sees
list-returns-clause-sees t c = λ ms a.
    let ts = c.args.pool.now in
    let E = effects_of c.args.self.now ms in
    let b = statements_at ts c.args.stmts.now in
    let none = next_none ts c.args.stmts.now c.loop-i.i c.loop-i-test.false in
    subst (λ (z : Seen). SeesList E b c.args.path.now c.finish.new.path c.args.seen z) (sym c.end.ensures)
    (list_ends E b c.args.path.now c.loop-i.path c.finish.new.path c.loop-i.kept c.args.seen c.loop-i.so_far
    (λ p s. subst (λ (z : Statements). ListLeft E b z c.args.path.now c.loop-i.path c.loop-i.kept c.args.seen c.loop-i.so_far p) none (c.loop-i.invariant.left ms a p s))
    (none_kept c.loop-i.path c.finish.new.path c.loop-i.kept c.finish.ensures) (ap (λ (z : Statements). c.loop-i.so_far.held || holds z) (sym none) ∙ c.loop-i.invariant.held ms a))
