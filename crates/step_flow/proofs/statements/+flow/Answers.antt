-- Proves what comes of statements that have others in them, and of lists of statements.
use Rattle.std.proofs.Common.{◌≡◌, ◌+◌, List, [], drop, Bool, cond, Vec, Global, Ok, refl, sym, ap, subst, ◌∙◌, arith}
use Rattle.std.proofs.lemmas.List.{drop_all}
use Rattle.tla_tree.proofs.PoolNumbers.{past_at}
use Rattle.tla_tree.specs.Pool.{at}
use Rattle.pcal_tree.specs.declared.algorithm.Stmt.{Stmt}
use Rattle.pcal_tree.specs.Algorithm.{branch, either, with, while}
use Rattle.pcal_tree.specs.InMemory.{binds_at, statements_at, branches_at, past_stmt, past_statements, past_branches}
use Rattle.pcal_tree.specs.Run.{no_partner, unlabelled, label_of}
use Rattle.pcal_tree.specs.Run as run
use Rattle.pcal_tree.proofs.InMemoryEach.{past_either}
use Rattle.pcal_tree.proofs.StatementHeights.{height, heights, branch_heights, either_height}
use Rattle.step_walks.specs.StepFlows.{flow}
use Rattle.step_walks.specs.WrittenCalls.{written_rules}
use Rattle.step_moves.specs.Programs.{program_at}
use Rattle.step_spots.specs.Targets.{target_word}
use Rattle.step_moves.specs.StatesOf.{state_of}
use Rattle.step_choices.specs.Pauses.{Pauses}
use Rattle.step_moves.specs.Runners.{partner_of}
use Rattle.step_flow.specs.declared.going.End.TheVariants as end
use Rattle.step_flow.specs.Ends.{Ends, left_of, scope_of, list_from, one_from}
use Rattle.step_flow.proofs.FlowLaws.{err_ends, ends_alike, ends_so}
use Rattle.step_flow.proofs.ChosenLaws.{branch_picked, branch_pauses}
use Rattle.step_flow.proofs.ListLaws.{slice_rest, list_goes_on, list_over, list_pauses, if_item, either_item, with_item, while_item, with_bound, branch_taken, loop_entered, loop_back, loop_over, loop_pauses}
use Rattle.step_flow.proofs.statements.+flow.Goals as goal
use Rattle.step_flow.proofs.statements.+flow.Goals.{branch-then-branch, branch-else-branch}

-- ---- `if`

pub branch-returns-clause-ends : goal.branch-returns-clause-ends
branch-returns-clause-ends t c v u j r =
    let whole = λ (is : c.if-branch.taken.now ≡ cond c.in_ok-truth.field-0 c.args.yes.now c.args.no.now).
    subst (Ends c.statements.result c.statements.new.going c.args.choices.now)
    (sym (branch_taken c.args.runner.now v u (target_word c.args.here) c.args.span.first c.args.test c.args.yes.now c.args.no.now c.if-branch.taken.now (target_word c.args.exit) j c.args.going.now c.args.choices.now c.in_ok-truth.field-0 c.in_ok-truth.ensures is))
    (c.statements.ensures.ends v u j r) in
    elim c.if-branch.branch [
      | branch-then-branch w ↦ whole (ap (λ b. b.now) w.taken-is ∙ sym (ap (λ (q : Bool). cond q c.args.yes.now c.args.no.now) w.if-branch.true))
      | branch-else-branch w ↦ whole (ap (λ b. b.now) w.taken-is ∙ sym (ap (λ (q : Bool). cond q c.args.yes.now c.args.no.now) w.if-branch.false))
    ]

-- ---- `either`

pub either-returns-in_err-i-clause-ends : goal.either-returns-in_err-i-clause-ends
either-returns-in_err-i-clause-ends t c v u j r =
    let P = program_at c.args.runner.now.program in
    err_ends c.from_residual.result c.in_err-i.field-0.0 _ c.args.choices.now _ c.from_residual.ensures
    (branch_pauses (written_rules P [] v u) c.args.runner.now.program.pool.now (scope_of P c.args.going.now) (target_word c.args.exit) j (state_of c.args.going.now.state) (target_word c.args.here) c.args.span.first
    c.args.branches.now (left_of c.args.choices.now c.args.going.now) c.in_err-i.field-0.0 c.in_err-i.ensures.none.0 c.in_err-i.ensures.none.1)

pub either-statements-requires : goal.either-statements-requires
either-statements-requires t c =
    let less = past_at (λ (b : Vec Stmt Global). heights b.items) c.args.branches.now c.in_ok-i.i c.index-branches-i.result c.index-branches-i.is c.in_ok-i.ensures.taken.0 in
    let past = past_at (λ (b : Vec Stmt Global). past_statements b.items) c.args.branches.now c.in_ok-i.i c.index-branches-i.result c.index-branches-i.is c.in_ok-i.ensures.taken.0 in (
      omega (arith, less, ap heights c.deref.ensures.value, c.decreases),
      (omega (arith, past, ap past_statements c.deref.ensures.value, c.requires.below), record { ready = c.requires.stands.ready; scene = c.requires.stands.scene; paired = c.requires.stands.paired }),
    )

pub either-returns-clause-ends : goal.either-returns-clause-ends
either-returns-clause-ends t c v u j r =
    let P = program_at c.args.runner.now.program in
    let ts = c.args.runner.now.program.pool.now in
    let M = written_rules P [] v u in
    let sc = scope_of P c.args.going.now in
    let s = state_of c.args.going.now.state in
    subst (Ends c.statements.result c.statements.new.going c.args.choices.now)
    (sym (branch_picked M ts sc (target_word c.args.exit) j s (target_word c.args.here) c.args.span.first c.args.branches.now c.in_ok-i.i c.index-branches-i.result (left_of c.args.choices.now c.args.going.now) (drop c.picked.new.used c.args.choices.now)
    c.in_ok-i.ensures.taken.0 c.index-branches-i.is c.in_ok-i.ensures.taken.1
    ∙ ap (λ (l : List Stmt). flow M unlabelled (statements_at ts l) sc (target_word c.args.exit) j s (drop c.picked.new.used c.args.choices.now)) (sym c.deref.ensures.value)))
    (c.statements.ensures.ends v u j r)

-- ---- one statement

pub one-either-requires : goal.one-either-requires
one-either-requires t c = (
  omega (arith, either_height c.in-Either.span c.in-Either.branches, ap branch_heights c.deref-in-Either.ensures.value, ap height c.in-Either.is, c.decreases),
  (omega (arith, past_either c.in-Either.span c.in-Either.branches, ap past_branches c.deref-in-Either.ensures.value, ap past_stmt c.in-Either.is, c.requires.below), c.requires.stands),
)

pub one-returns-in-If-clause-ends : goal.one-returns-in-If-clause-ends
one-returns-in-If-clause-ends t c v u r =
    let ts = c.args.runner.now.program.pool.now in
    subst (Ends c.branch-alloc.result c.branch-alloc.new.going c.args.choices.now)
    (sym (if_item c.args.runner.now v u (target_word c.args.here) c.args.stmt.now (target_word c.args.exit) (partner_of c.args.partner) c.args.going.now c.args.choices.now c.in-If.span c.in-If.test c.in-If.yes c.in-If.no c.in-If.is
    ∙ (λ k. one_from c.args.runner.now v u (target_word c.args.here) c.in-If.span.first (branch (at ts c.in-If.test) (statements_at ts (sym c.deref.ensures.value k)) (statements_at ts (sym c.deref-in-If.ensures.value k))) (target_word c.args.exit) (partner_of c.args.partner) c.args.going.now c.args.choices.now)))
    (c.branch-alloc.ensures.ends v u (partner_of c.args.partner) r)

pub one-returns-in-Either-clause-ends : goal.one-returns-in-Either-clause-ends
one-returns-in-Either-clause-ends t c v u r =
    let ts = c.args.runner.now.program.pool.now in
    subst (Ends c.either.result c.either.new.going c.args.choices.now)
    (sym (either_item c.args.runner.now v u (target_word c.args.here) c.args.stmt.now (target_word c.args.exit) (partner_of c.args.partner) c.args.going.now c.args.choices.now c.in-Either.span c.in-Either.branches c.in-Either.is
    ∙ ap (λ (l : List (Vec Stmt Global)). one_from c.args.runner.now v u (target_word c.args.here) c.in-Either.span.first (either (branches_at ts l)) (target_word c.args.exit) (partner_of c.args.partner) c.args.going.now c.args.choices.now) (sym c.deref-in-Either.ensures.value)))
    (c.either.ensures.ends v u (partner_of c.args.partner) r)

pub one-returns-in-With-clause-ends : goal.one-returns-in-With-clause-ends
one-returns-in-With-clause-ends t c v u r =
    let ts = c.args.runner.now.program.pool.now in
    subst (Ends c.with.result c.with.new.going c.args.choices.now)
    (sym (with_item c.args.runner.now v u (target_word c.args.here) c.args.stmt.now (target_word c.args.exit) (partner_of c.args.partner) c.args.going.now c.args.choices.now c.in-With.span c.in-With.binds c.in-With.body c.in-With.is
    ∙ (λ k. one_from c.args.runner.now v u (target_word c.args.here) c.in-With.span.first (with (binds_at ts (sym c.deref-in-With.ensures.value k)) (statements_at ts (sym c.deref-in-With-2.ensures.value k))) (target_word c.args.exit) (partner_of c.args.partner) c.args.going.now c.args.choices.now)))
    (c.with.ensures.ends v u (partner_of c.args.partner) r)

pub one-returns-in-While-clause-ends : goal.one-returns-in-While-clause-ends
one-returns-in-While-clause-ends t c v u r =
    let ts = c.args.runner.now.program.pool.now in
    subst (Ends c.repeat.result c.repeat.new.going c.args.choices.now)
    (sym (while_item c.args.runner.now v u (target_word c.args.here) c.args.stmt.now (target_word c.args.exit) (partner_of c.args.partner) c.args.going.now c.args.choices.now c.in-While.span c.in-While.test c.in-While.body c.in-While.is
    ∙ ap (λ (l : List Stmt). one_from c.args.runner.now v u (target_word c.args.here) c.in-While.span.first (while (at ts c.in-While.test) (statements_at ts l)) (target_word c.args.exit) (partner_of c.args.partner) c.args.going.now c.args.choices.now) (sym c.deref-in-While.ensures.value)))
    (c.repeat.ensures.ends v u (partner_of c.args.partner) r)

-- ---- `while`

pub repeat-returns-in_err-end-clause-ends : goal.repeat-returns-in_err-end-clause-ends
repeat-returns-in_err-end-clause-ends t c v u j r =
    err_ends c.from_residual-in_err-end.result c.in_err-end.field-0.0 c.statements.new.going c.args.choices.now _ c.from_residual-in_err-end.ensures
    (subst (Pauses c.in_err-end.field-0.0)
    (sym (loop_entered c.args.runner.now v u (target_word c.args.here) c.args.span.first c.args.test c.args.body.now (target_word c.args.exit) j c.args.going.now c.args.choices.now c.in_ok-truth.field-0 c.in_ok-truth.ensures c.if-not-branch.false))
    (loop_pauses c.args.runner.now v u (target_word c.args.here) c.args.body.now c.args.going.now c.statements.new.going c.args.choices.now c.in_err-end.field-0.0 (c.in_err-end.ensures.ends v u no_partner r)))

pub repeat-returns-in-Falls-clause-ends : goal.repeat-returns-in-Falls-clause-ends
repeat-returns-in-Falls-clause-ends t c v u j r =
    subst (Ends c.go_to.result c.go_to.new.going c.args.choices.now)
    (sym (loop_entered c.args.runner.now v u (target_word c.args.here) c.args.span.first c.args.test c.args.body.now (target_word c.args.exit) j c.args.going.now c.args.choices.now c.in_ok-truth.field-0 c.in_ok-truth.ensures c.if-not-branch.false
    ∙ loop_back c.args.runner.now v u (target_word c.args.here) c.args.body.now c.args.going.now c.statements.new.going c.args.choices.now (ends_so c.in_ok-end.end end.Falls _ _ _ c.in-Falls.is (c.in_ok-end.ensures.ends v u no_partner r))))
    (c.go_to.ensures.ends v u r)

pub repeat-returns-in-Over-clause-ends : goal.repeat-returns-in-Over-clause-ends
repeat-returns-in-Over-clause-ends t c v u j r =
    loop_entered c.args.runner.now v u (target_word c.args.here) c.args.span.first c.args.test c.args.body.now (target_word c.args.exit) j c.args.going.now c.args.choices.now c.in_ok-truth.field-0 c.in_ok-truth.ensures c.if-not-branch.false
    ∙ loop_over c.args.runner.now v u (target_word c.args.here) c.args.body.now c.args.going.now c.statements.new.going c.args.choices.now (ends_so c.in_ok-end.end end.Over _ _ _ c.in-Over.is (c.in_ok-end.ensures.ends v u no_partner r))

-- ---- lists

pub statements-one-requires : goal.statements-one-requires
statements-one-requires t c =
    let less = past_at height c.args.list.now c.loop-i.i c.index-list-i.result c.index-list-i.is c.loop-i-test.true in
    let past = past_at past_stmt c.args.list.now c.loop-i.i c.index-list-i.result c.index-list-i.is c.loop-i-test.true in
    (omega (arith, less, c.decreases), (omega (arith, past, c.requires.below), c.loop-i.invariant.stands))

pub statements-returns-in_err-end-clause-ends : goal.statements-returns-in_err-end-clause-ends
statements-returns-in_err-end-clause-ends t c v u j r =
    let ts = c.args.runner.now.program.pool.now in
    let rest = slice_rest c.args.list.now (c.loop-i.i + 1) in
    err_ends c.from_residual.result c.in_err-end.field-0.0 c.one.new.going c.args.choices.now _ c.from_residual.ensures
    (subst (Pauses c.in_err-end.field-0.0) (c.loop-i.invariant.same v u j r)
    (list_pauses c.args.runner.now v u (target_word c.loop-i.label) c.args.list.now c.loop-i.i c.index-list-i.result (target_word c.args.exit) (target_word c.next_target-next.result) (partner_of c.partner_before-partner.result) j c.loop-i.going c.one.new.going c.args.choices.now c.in_err-end.field-0.0
    c.index-list-i.is c.loop-i-test.true
    (c.next_target-next.ensures ts ∙ ap (λ (ss : List Stmt). label_of (statements_at ts ss) (target_word c.args.exit)) rest)
    (c.partner_before-partner.ensures ts ∙ ap (λ (ss : List Stmt). run.partner_of (statements_at ts ss)) rest)
    (c.in_err-end.ensures.ends v u r)))

pub statements-returns-in-Over-clause-ends : goal.statements-returns-in-Over-clause-ends
statements-returns-in-Over-clause-ends t c v u j r =
    let ts = c.args.runner.now.program.pool.now in
    let rest = slice_rest c.args.list.now (c.loop-i.i + 1) in
    sym (c.loop-i.invariant.same v u j r)
    ∙ list_over c.args.runner.now v u (target_word c.loop-i.label) c.args.list.now c.loop-i.i c.index-list-i.result (target_word c.args.exit) (target_word c.next_target-next.result) (partner_of c.partner_before-partner.result) j c.loop-i.going c.one.new.going c.args.choices.now
    c.index-list-i.is c.loop-i-test.true
    (c.next_target-next.ensures ts ∙ ap (λ (ss : List Stmt). label_of (statements_at ts ss) (target_word c.args.exit)) rest)
    (c.partner_before-partner.ensures ts ∙ ap (λ (ss : List Stmt). run.partner_of (statements_at ts ss)) rest)
    (ends_so c.in_ok-end.end end.Over _ _ _ c.in-Over.is (c.in_ok-end.ensures.ends v u r))

pub statements-loop-i-preserved : goal.statements-loop-i-preserved
statements-loop-i-preserved t c =
    let ts = c.args.runner.now.program.pool.now in
    let rest = slice_rest c.args.list.now (c.loop-i.i + 1) in record {
      same = λ v u j r.
          sym (list_goes_on c.args.runner.now v u (target_word c.loop-i.label) c.args.list.now c.loop-i.i c.index-list-i.result (target_word c.args.exit) (target_word c.next_target-next.result) (partner_of c.partner_before-partner.result) j c.loop-i.going c.one.new.going c.args.choices.now
          c.index-list-i.is c.loop-i-test.true
          (c.next_target-next.ensures ts ∙ ap (λ (ss : List Stmt). label_of (statements_at ts ss) (target_word c.args.exit)) rest)
          (c.partner_before-partner.ensures ts ∙ ap (λ (ss : List Stmt). run.partner_of (statements_at ts ss)) rest)
          c.in_ok-end.ensures.bound (ends_so c.in_ok-end.end end.Falls _ _ _ c.in-Falls.is (c.in_ok-end.ensures.ends v u r)))
          ∙ c.loop-i.invariant.same v u j r;
      stands = c.in_ok-end.ensures.stands;
      bound = record {
        names = c.in_ok-end.ensures.bound.names ∙ c.loop-i.invariant.bound.names;
        values = c.in_ok-end.ensures.bound.values ∙ c.loop-i.invariant.bound.values;
      };
    }

pub statements-returns-clause-ends : goal.statements-returns-clause-ends
statements-returns-clause-ends t c v u j r =
    let ts = c.args.runner.now.program.pool.now in
    sym (c.loop-i.invariant.same v u j r)
    ∙ ap (λ (ss : List Stmt). list_from c.args.runner.now v u (target_word c.loop-i.label) ss (target_word c.args.exit) j c.loop-i.going c.args.choices.now) (drop_all c.loop-i.i c.args.list.now (omega (arith, c.loop-i-test.false)))

-- ---- `with`

pub with-returns-in_err-end-clause-ends : goal.with-returns-in_err-end-clause-ends
with-returns-in_err-end-clause-ends t c v u j r =
    err_ends c.from_residual-in_err-end.result c.in_err-end.field-0.0 c.statements.new.going c.args.choices.now _ c.from_residual-in_err-end.ensures
    (subst (Pauses c.in_err-end.field-0.0)
    (sym (with_bound c.args.runner.now v u (target_word c.args.here) c.args.span.first c.args.binds.now c.args.body.now (target_word c.args.exit) j c.args.going.now c.bind_all.new.going c.args.choices.now c.in_ok-bind_all.ensures.bound c.in_ok-bind_all.ensures.state))
    (c.in_err-end.ensures.ends v u j r))

pub with-returns-clause-ends : goal.with-returns-clause-ends
with-returns-clause-ends t c v u j r =
    subst (Ends (Ok c.in_ok-end.end) _ c.args.choices.now)
    (sym (with_bound c.args.runner.now v u (target_word c.args.here) c.args.span.first c.args.binds.now c.args.body.now (target_word c.args.exit) j c.args.going.now c.bind_all.new.going c.args.choices.now c.in_ok-bind_all.ensures.bound c.in_ok-bind_all.ensures.state))
    (ends_alike c.in_ok-end.end c.statements.new.going _ c.args.choices.now _ refl refl (c.in_ok-end.ensures.ends v u j r))
