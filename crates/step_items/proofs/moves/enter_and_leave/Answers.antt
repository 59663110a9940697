-- Proves that the assignments of a call that is one statement with a return are written, with the stack as it was before them.
use Rattle.std.proofs.Common.{◌≡◌, List, Vec, Global, Some, length, refl, sym, ap, ◌∙◌, subst, arith}
use Rattle.tla_token.specs.Places.{nowhere}
use Rattle.tla_tree.specs.Tree.{graft}
use Rattle.tla_tree.specs.Pool.{trees_at}
use Rattle.tla_tree.proofs.PoolNumbers.{Keeps-then}
use Rattle.pcal_tree.specs.declared.algorithm.Assignment.{Assignment}
use Rattle.pcal_tree.specs.Algorithm.{Statements, Routine, procedure_routine}
use Rattle.pcal_tree.specs.Expand.{graft_all}
use Rattle.pcal_tree.specs.InMemory.{procedure_at}
use Rattle.pcal_tree.specs.Variables.{stack}
use Rattle.pcal_tree.proofs.InMemoryGrown.{numbers_kept}
use Rattle.action_builder.specs.Jumps.{name_at, pair_body}
use Rattle.action_builder.specs.LabelActions.{initial_tree}
use Rattle.proc_stack.specs.Moves.{in_order, moves_at}
use Rattle.right_sides.specs.declared.after.After.{After}
use Rattle.step_items.specs.Writing.{own_of, Plain}
use Rattle.right_sides.proofs.AfterLaws.{maybe_more}
use Rattle.step_items.proofs.DeskLaws.{desk_kept}
use Rattle.step_items.proofs.CallLaws.{own_names}
use Rattle.step_items.proofs.WritesLaws.{if_ok}
use Rattle.step_items.proofs.MoveLaws.{writes_old, procedure_kept}
use Rattle.step_items.proofs.moves.enter_and_leave.Goals as goal

pub set_all-requires-clause-after : goal.set_all-requires-clause-after
set_all-requires-clause-after c = record {
  old = omega (arith, c.in_ok-old.ensures.within, c.in_ok-rows.ensures.kept.longer);
  single = maybe_more (length c.args.pool.now) (length c.call_return_moves.new.pool) c.args.desk.now.single (omega (arith, c.in_ok-old.ensures.kept.longer, c.in_ok-rows.ensures.kept.longer)) c.requires.desk.single;
}

pub returns-clause-made : goal.returns-clause-made
returns-clause-made c = λ P u x h one plain.
    let ts = c.args.pool.now in
    let mid = c.stack_before.new.pool in
    let us = c.call_return_moves.new.pool in
    let first = c.in_ok-old.ensures.kept in
    let kept = Keeps-then ts mid us first c.in_ok-rows.ensures.kept in
    let desk = c.args.desk.now in
    let before = desk_kept ts mid first desk P u x c.requires.desk h in
    let n = c.args.callee.now.number in
    let p : Routine = procedure_routine n (procedure_at ts c.args.callee.now.procedure.now) in
    let a : After = record { old = Some c.in_ok-old.old; single = desk.single } in
    let same : in_order (moves_at us c.deref.result.now) ≡ pair_body P u p nowhere nowhere (trees_at ts c.args.arguments.now) (λ d. nowhere) (λ d. initial_tree P p d.start) =
    ap (λ (rows : List (Vec Assignment Global)). in_order (moves_at us rows)) c.deref.ensures.value
    ∙ c.in_ok-rows.ensures.tree P u before.draft before.number before.listed (own_names ts desk P u x h n c.args.callee.now.procedure.now one)
    ∙ (λ j.
    let q : Routine = procedure_routine n (procedure_kept ts mid first c.args.callee.now.procedure.now c.requires.procedure j) in
    pair_body P u q nowhere nowhere (numbers_kept ts mid first c.args.arguments.now c.requires.arguments j) (λ d. nowhere) (λ d. initial_tree P q d.start)) in
    if_ok c.set_all.result _ _
    (c.set_all.ensures.made P u x (desk_kept ts us kept desk P u x c.requires.desk h) (subst (λ (S : Statements). Plain P (graft_all (own_of P) S)) (sym same) (record { settled = plain.settled.0; parts = plain.parts.0 })))
    (λ r w.
    writes_old P u x ts us c.set_all.new.pool desk a c.in_ok-old.old (graft (own_of P) (name_at nowhere stack)) c.args.out.now.items c.set_all.new.out.items c.args.before.now r _ _ kept c.requires.items
    (desk_kept ts us kept desk P u x c.requires.desk h) refl (c.in_ok-rows.ensures.kept.same c.in_ok-old.old c.in_ok-old.ensures.within ∙ c.in_ok-old.ensures.tree P u x h) refl (ap (graft_all (own_of P)) same) w)
