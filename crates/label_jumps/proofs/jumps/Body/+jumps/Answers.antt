-- Proves that the first jump or label that may not be where it is is found.
use Rattle.std.proofs.Common.{Bool, List, Vec, Global, sym, ap, ◌∙◌, arith}
use Rattle.tla_token.specs.declared.place.Place.{Place}
use Rattle.tla_token.specs.declared.rule.Rule.TheVariants.{LabelInside}
use Rattle.tla_tree.specs.Tree.{Name}
use Rattle.tla_tree.proofs.PoolNumbers.{past_at}
use Rattle.pcal_tree.specs.declared.algorithm.Stmt.{Stmt}
use Rattle.pcal_tree.specs.InMemory.{stmt_at, statements_at, branches_at}
use Rattle.pcal_tree.specs.Offences.{offence_if, first}
use Rattle.pcal_tree.specs.OffencesLabels.{within_with, jump_offences, jump_offences_of_some}
use Rattle.pcal_tree.proofs.StatementHeights.{height, heights, branch_heights, either_height}
use Rattle.algorithm_answer.specs.Joined.{joined}
use Rattle.label_jumps.proofs.JumpLaws.{stands_in_with, label_jumps, simple_jumps, if_jumps, either_jumps, with_jumps, while_jumps, stmt_more, stmts_done, branch_more, branches_done}
use Rattle.label_jumps.proofs.jumps.Body.+jumps.Goals as goal

pub body-stmt-so_far-requires : goal.body-stmt-so_far-requires
body-stmt-so_far-requires t c =
    let less = past_at height c.args.stmts.now c.loop-stmt.stmt-index c.stmt-item.result c.stmt-item.is c.loop-stmt-test.true in omega (arith, less, c.decreases)

pub body-loop-stmt-preserved : goal.body-loop-stmt-preserved
body-loop-stmt-preserved t c = λ ts w s.
    stmt_more w ts c.loop-stmt.so_far _ c.args.stmts.now c.loop-stmt.stmt-index c.stmt-item.result c.stmt-item.is c.loop-stmt-test.true (c.stmt-so_far.ensures ts w s) ∙ c.loop-stmt.invariant ts w s

pub body-returns : goal.body-returns
body-returns t c = λ ts w s. sym (stmts_done w ts c.loop-stmt.so_far c.args.stmts.now c.loop-stmt.stmt-index c.loop-stmt-test.false) ∙ c.loop-stmt.invariant ts w s

pub branches-body-so_far-requires : goal.branches-body-so_far-requires
branches-body-so_far-requires t c =
    let less = past_at (λ (b : Vec Stmt Global). heights b.items) c.args.list.now c.loop-i.i c.index-list-i.result c.index-list-i.is c.loop-i-test.true in
    omega (arith, less, ap heights c.deref.ensures.value, c.decreases)

pub branches-loop-i-preserved : goal.branches-loop-i-preserved
branches-loop-i-preserved t c = λ ts w s.
    branch_more w ts c.loop-i.so_far _ c.args.list.now c.loop-i.i c.index-list-i.result c.index-list-i.is c.loop-i-test.true
    (c.body-so_far.ensures ts w s ∙ ap (λ (ys : List Stmt). joined c.loop-i.so_far (first (jump_offences w (statements_at ts ys)))) c.deref.ensures.value)
    ∙ c.loop-i.invariant ts w s

pub branches-returns : goal.branches-returns
branches-returns t c = λ ts w s. sym (branches_done w ts c.loop-i.so_far c.args.list.now c.loop-i.i c.loop-i-test.false) ∙ c.loop-i.invariant ts w s

pub stmt-branches-requires : goal.stmt-branches-requires
stmt-branches-requires t c =
    omega (arith, either_height c.in-Either.field-0 c.in-Either.list, ap branch_heights c.deref-in-Either.ensures.value, ap height c.in-Either.is, c.decreases)

pub stmt-returns-in-Simple : goal.stmt-returns-in-Simple
stmt-returns-in-Simple t c = λ ts w s rest.
    simple_jumps c.args.self.now c.args.in_with w s ts c.args.found rest c.simple.result c.in-Simple.span c.in-Simple.simple (c.simple.ensures ts c.args.in_with w s)
    ∙ ap (λ (z : Stmt). joined c.args.found (first (jump_offences w (stmt_at ts z rest)))) (sym c.in-Simple.is)

pub stmt-returns-in-If : goal.stmt-returns-in-If
stmt-returns-in-If t c = λ ts w s rest.
    if_jumps c.args.self.now c.args.in_with w s ts c.args.found rest c.body-first.result c.body.result c.in-If.field-0 c.in-If.field-1 c.in-If.then c.in-If.otherwise
    (c.body-first.ensures ts w s ∙ ap (λ (ys : List Stmt). joined c.args.found (first (jump_offences w (statements_at ts ys)))) c.deref.ensures.value)
    (c.body.ensures ts w s ∙ ap (λ (ys : List Stmt). joined c.body-first.result (first (jump_offences w (statements_at ts ys)))) c.deref-in-If.ensures.value)
    ∙ ap (λ (z : Stmt). joined c.args.found (first (jump_offences w (stmt_at ts z rest)))) (sym c.in-If.is)

pub stmt-returns-in-Either : goal.stmt-returns-in-Either
stmt-returns-in-Either t c = λ ts w s rest.
    either_jumps c.args.self.now c.args.in_with w s ts c.args.found rest c.branches.result c.in-Either.field-0 c.in-Either.list
    (c.branches.ensures ts w s ∙ ap (λ (ys : List (Vec Stmt Global)). joined c.args.found (first (jump_offences_of_some w (branches_at ts ys)))) c.deref-in-Either.ensures.value)
    ∙ ap (λ (z : Stmt). joined c.args.found (first (jump_offences w (stmt_at ts z rest)))) (sym c.in-Either.is)

pub stmt-returns-in-With : goal.stmt-returns-in-With
stmt-returns-in-With t c = λ ts w s rest.
    with_jumps c.args.self.now c.args.in_with w s ts c.args.found rest c.body-in-With.result c.in-With.field-0 c.in-With.field-1 c.in-With.body
    (c.body-in-With.ensures ts (within_with w) (stands_in_with c.args.self.now c.args.in_with w s) ∙ ap (λ (ys : List Stmt). joined c.args.found (first (jump_offences (within_with w) (statements_at ts ys)))) c.deref-in-With.ensures.value)
    ∙ ap (λ (z : Stmt). joined c.args.found (first (jump_offences w (stmt_at ts z rest)))) (sym c.in-With.is)

pub stmt-returns-in-While : goal.stmt-returns-in-While
stmt-returns-in-While t c = λ ts w s rest.
    while_jumps c.args.self.now c.args.in_with w s ts c.args.found rest c.or_offence-here.result c.body-in-While.result c.in-While.span c.in-While.field-1 c.in-While.body c.or_offence-here.ensures
    (c.body-in-While.ensures ts w s ∙ ap (λ (ys : List Stmt). joined c.or_offence-here.result (first (jump_offences w (statements_at ts ys)))) c.deref-in-While.ensures.value)
    ∙ ap (λ (z : Stmt). joined c.args.found (first (jump_offences w (stmt_at ts z rest)))) (sym c.in-While.is)

pub stmt-returns-in-Label : goal.stmt-returns-in-Label
stmt-returns-in-Label t c = λ ts w s rest.
    label_jumps c.args.self.now c.args.in_with w s ts c.args.found rest c.or_offence.result c.in-Label.name c.in-Label.field-1
    (c.or_offence.ensures ∙ ap (λ (p : Place). joined c.args.found (first (offence_if c.bars_labels-bars.result LabelInside p))) (ap (λ (n : Name). n.place) c.name.view_is)
    ∙ ap (λ (b : Bool). joined c.args.found (first (offence_if b LabelInside c.in-Label.name.place))) c.bars_labels-bars.ensures)
    ∙ ap (λ (z : Stmt). joined c.args.found (first (jump_offences w (stmt_at ts z rest)))) (sym c.in-Label.is)
