-- Proves that the first label that is missing in statements is found.
use Rattle.std.proofs.Common.{Bool, not, false, Vec, Global, refl, sym, ap, ◌∙◌, subst, arith}
use Rattle.tla_token.specs.declared.rule.Rule.TheVariants.{WhileLabel}
use Rattle.tla_tree.proofs.PoolNumbers.{past_at}
use Rattle.pcal_tree.specs.declared.algorithm.Stmt.{Stmt}
use Rattle.pcal_tree.specs.InMemory.{span_of, stmt_at}
use Rattle.pcal_tree.specs.Offences.{offence_if, first}
use Rattle.pcal_tree.proofs.StatementHeights.{height, heights, branch_heights, either_height}
use Rattle.algorithm_answer.specs.Joined.{joined}
use Rattle.label_steps.specs.declared.due.Walk.{Walk}
use Rattle.label_steps.specs.Walking.{Passes}
use Rattle.label_steps.proofs.WalkLaws.{in_list_passes, if_passes, either_passes, with_passes, while_passes, due_more, holds_more, due_done, holds_done, some_more, holds_some_more, some_done, holds_some_done, into_due, into_holds, into_some, into_holds_some, out_behind}
use Rattle.label_steps.proofs.due.+due.Goals as goal

pub past_body-past_stmt-so_far-requires : goal.past_body-past_stmt-so_far-requires
past_body-past_stmt-so_far-requires t c =
    let less = past_at height c.args.stmts.now c.loop-stmt.stmt-index c.stmt-item.result c.stmt-item.is c.loop-stmt-test.true in omega (arith, less, c.decreases)

pub past_body-loop-stmt-preserved : goal.past_body-loop-stmt-preserved
past_body-loop-stmt-preserved t c = record {
  first = λ ts. due_more ts c.loop-stmt.so_far c.past_stmt-so_far.result c.args.stmts.now c.loop-stmt.stmt-index c.stmt-item.result c.stmt-item.is c.loop-stmt-test.true (c.past_stmt-so_far.ensures ts) ∙ c.loop-stmt.invariant.first ts;
  holds = λ ts. holds_more ts c.loop-stmt.so_far c.past_stmt-so_far.result c.args.stmts.now c.loop-stmt.stmt-index c.stmt-item.result c.stmt-item.is c.loop-stmt-test.true (c.past_stmt-so_far.ensures ts) ∙ c.loop-stmt.invariant.holds ts;
}

pub past_body-returns-clause-first : goal.past_body-returns-clause-first
past_body-returns-clause-first t c = λ ts. sym (due_done ts c.loop-stmt.so_far c.args.stmts.now c.loop-stmt.stmt-index c.loop-stmt-test.false) ∙ c.loop-stmt.invariant.first ts

pub past_body-returns-clause-holds : goal.past_body-returns-clause-holds
past_body-returns-clause-holds t c = λ ts. sym (holds_done ts c.loop-stmt.so_far c.args.stmts.now c.loop-stmt.stmt-index c.loop-stmt-test.false) ∙ c.loop-stmt.invariant.holds ts

pub past_branches-past_body-so_far-requires : goal.past_branches-past_body-so_far-requires
past_branches-past_body-so_far-requires t c =
    let less = past_at (λ (b : Vec Stmt Global). heights b.items) c.args.list.now c.loop-i.i c.index-list-i.result c.index-list-i.is c.loop-i-test.true in
    omega (arith, less, ap heights c.deref.ensures.value, c.decreases)

pub past_branches-loop-i-preserved : goal.past_branches-loop-i-preserved
past_branches-loop-i-preserved t c = record {
  first = λ ts.
      some_more ts c.loop-i.so_far c.past_body-so_far.result c.args.list.now c.loop-i.i c.index-list-i.result c.index-list-i.is c.loop-i-test.true
      (into_due ts c.into.result c.loop-i.so_far.first c.loop-i.so_far.holds c.into.ensures _ _ c.past_body-so_far.result.first c.deref.ensures.value (c.past_body-so_far.ensures.first ts))
      ∙ c.loop-i.invariant.first ts;
  holds = λ ts.
      holds_some_more ts c.loop-i.so_far c.past_body-so_far.result c.args.list.now c.loop-i.i c.index-list-i.result c.index-list-i.is c.loop-i-test.true
      (into_holds ts c.into.result c.loop-i.so_far.first c.loop-i.so_far.holds c.into.ensures _ _ c.past_body-so_far.result.holds c.deref.ensures.value (c.past_body-so_far.ensures.holds ts))
      ∙ c.loop-i.invariant.holds ts;
}

pub past_branches-returns-clause-first : goal.past_branches-returns-clause-first
past_branches-returns-clause-first t c = λ ts. sym (some_done ts c.loop-i.so_far c.args.list.now c.loop-i.i c.loop-i-test.false) ∙ c.loop-i.invariant.first ts

pub past_branches-returns-clause-holds : goal.past_branches-returns-clause-holds
past_branches-returns-clause-holds t c = λ ts. sym (holds_some_done ts c.loop-i.so_far c.args.list.now c.loop-i.i c.loop-i-test.false) ∙ c.loop-i.invariant.holds ts

pub past_stmt-past_branches-inner-requires : goal.past_stmt-past_branches-inner-requires
past_stmt-past_branches-inner-requires t c =
    omega (arith, either_height c.in-Either.span c.in-Either.list, ap branch_heights c.deref-in-Either.ensures.value, ap height c.in-Either.is, c.decreases)

pub past_stmt-returns-in-Simple : goal.past_stmt-returns-in-Simple
past_stmt-returns-in-Simple t c = λ ts.
    subst (λ (z : Stmt). Passes c.args.walk c.past_simple.result (stmt_at ts z)) (sym c.in-Simple.is)
    (in_list_passes ts c.args.walk c.past_simple.result c.in-Simple.span c.in-Simple.simple (c.past_simple.ensures ts (span_of c.in-Simple.span) refl))

pub past_stmt-returns-in-If : goal.past_stmt-returns-in-If
past_stmt-returns-in-If t c = λ ts.
    subst (λ (z : Stmt). Passes c.args.walk c.out.result (stmt_at ts z)) (sym c.in-If.is)
    (if_passes ts c.args.walk c.out.result c.in-If.span c.in-If.field-1 c.in-If.then c.in-If.otherwise c.due-found.result c.past_body-first.result.first c.past_body-second.result.first
    c.past_body-first.result.holds c.past_body-second.result.holds c.due-found.ensures
    (into_due ts c.into.result c.due-found.result false c.into.ensures _ _ c.past_body-first.result.first c.deref.ensures.value (c.past_body-first.ensures.first ts))
    (into_due ts c.into-in-If.result c.past_body-first.result.first c.past_body-first.result.holds c.into-in-If.ensures _ _ c.past_body-second.result.first c.deref-in-If.ensures.value (c.past_body-second.ensures.first ts))
    (into_holds ts c.into.result c.due-found.result false c.into.ensures _ _ c.past_body-first.result.holds c.deref.ensures.value (c.past_body-first.ensures.holds ts))
    (into_holds ts c.into-in-If.result c.past_body-first.result.first c.past_body-first.result.holds c.into-in-If.ensures _ _ c.past_body-second.result.holds c.deref-in-If.ensures.value (c.past_body-second.ensures.holds ts))
    (λ p. out_behind c.out.result c.behind_branch.result p _ (ap (λ (w : Walk). w.before) c.out.ensures) (c.behind_branch.ensures p))
    (ap (λ (w : Walk). w.first) c.out.ensures) (ap (λ (w : Walk). w.holds) c.out.ensures))

pub past_stmt-returns-in-Either : goal.past_stmt-returns-in-Either
past_stmt-returns-in-Either t c = λ ts.
    subst (λ (z : Stmt). Passes c.args.walk c.out-in-Either.result (stmt_at ts z)) (sym c.in-Either.is)
    (either_passes ts c.args.walk c.out-in-Either.result c.in-Either.span c.in-Either.list c.due-found-in-Either.result c.past_branches-inner.result.first c.past_branches-inner.result.holds c.due-found-in-Either.ensures
    (into_some ts c.into-in-Either.result c.due-found-in-Either.result false c.into-in-Either.ensures _ _ c.past_branches-inner.result.first c.deref-in-Either.ensures.value (c.past_branches-inner.ensures.first ts))
    (into_holds_some ts c.into-in-Either.result c.due-found-in-Either.result false c.into-in-Either.ensures _ _ c.past_branches-inner.result.holds c.deref-in-Either.ensures.value (c.past_branches-inner.ensures.holds ts))
    (λ p. out_behind c.out-in-Either.result c.behind_branch-in-Either.result p _ (ap (λ (w : Walk). w.before) c.out-in-Either.ensures) (c.behind_branch-in-Either.ensures p))
    (ap (λ (w : Walk). w.first) c.out-in-Either.ensures) (ap (λ (w : Walk). w.holds) c.out-in-Either.ensures))

pub past_stmt-returns-in-With : goal.past_stmt-returns-in-With
past_stmt-returns-in-With t c = λ ts.
    subst (λ (z : Stmt). Passes c.args.walk c.out-in-With.result (stmt_at ts z)) (sym c.in-With.is)
    (with_passes ts c.args.walk c.out-in-With.result c.in-With.span c.in-With.field-1 c.in-With.body c.due-found-in-With.result c.past_body-inner.result.first c.past_body-inner.result.holds c.due-found-in-With.ensures
    (into_due ts c.into-in-With.result c.due-found-in-With.result false c.into-in-With.ensures _ _ c.past_body-inner.result.first c.deref-in-With.ensures.value (c.past_body-inner.ensures.first ts))
    (into_holds ts c.into-in-With.result c.due-found-in-With.result false c.into-in-With.ensures _ _ c.past_body-inner.result.holds c.deref-in-With.ensures.value (c.past_body-inner.ensures.holds ts))
    (λ p. out_behind c.out-in-With.result c.behind_branch-in-With.result p _ (ap (λ (w : Walk). w.before) c.out-in-With.ensures) (c.behind_branch-in-With.ensures p))
    (ap (λ (w : Walk). w.first) c.out-in-With.ensures) (ap (λ (w : Walk). w.holds) c.out-in-With.ensures))

pub past_stmt-returns-in-While : goal.past_stmt-returns-in-While
past_stmt-returns-in-While t c = λ ts.
    subst (λ (z : Stmt). Passes c.args.walk c.out-in-While.result (stmt_at ts z)) (sym c.in-While.is)
    (while_passes ts c.args.walk c.out-in-While.result c.in-While.span c.in-While.field-1 c.in-While.body c.due-found-in-While.result c.or_offence-here.result c.past_body-inner-in-While.result.first c.past_body-inner-in-While.result.holds c.due-found-in-While.ensures
    (c.or_offence-here.ensures ∙ ap (λ (b : Bool). joined c.due-found-in-While.result (first (offence_if (not b) WhileLabel c.in-While.span.first))) c.is_label-bare.ensures)
    (into_due ts c.into-in-While.result c.or_offence-here.result false c.into-in-While.ensures _ _ c.past_body-inner-in-While.result.first c.deref-in-While.ensures.value (c.past_body-inner-in-While.ensures.first ts))
    (into_holds ts c.into-in-While.result c.or_offence-here.result false c.into-in-While.ensures _ _ c.past_body-inner-in-While.result.holds c.deref-in-While.ensures.value (c.past_body-inner-in-While.ensures.holds ts))
    (ap (λ (w : Walk). w.before) c.out-in-While.ensures) (ap (λ (w : Walk). w.first) c.out-in-While.ensures) (ap (λ (w : Walk). w.holds) c.out-in-While.ensures))
