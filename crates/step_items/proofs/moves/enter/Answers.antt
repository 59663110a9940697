-- Proves that the assignments of a call are written.
use Rattle.std.proofs.Common.{◌≡◌, List, Vec, Global, length, sym, ap, ◌∙◌, subst}
use Rattle.tla_token.specs.Places.{nowhere}
use Rattle.tla_tree.specs.Pool.{trees_at}
use Rattle.pcal_tree.specs.declared.algorithm.Assignment.{Assignment}
use Rattle.pcal_tree.specs.Algorithm.{Statements, Routine, procedure_routine}
use Rattle.pcal_tree.specs.Expand.{graft_all}
use Rattle.pcal_tree.specs.InMemory.{procedure_at}
use Rattle.action_builder.specs.Jumps.{call_written}
use Rattle.action_builder.specs.LabelActions.{initial_tree}
use Rattle.proc_stack.specs.Moves.{in_order, moves_at}
use Rattle.step_items.specs.Writing.{own_of, call_of, Plain}
use Rattle.step_items.proofs.DeskLaws.{desk_kept}
use Rattle.step_items.proofs.WritesLaws.{if_ok}
use Rattle.step_items.proofs.MoveLaws.{self_in, writes_self}
use Rattle.step_items.proofs.moves.enter.Goals as goal

pub set_all-requires-clause-after : goal.set_all-requires-clause-after
set_all-requires-clause-after c = self_in (length c.args.pool.now) (length c.call_moves.new.pool) c.args.desk.now c.only_self.result c.only_self.ensures.old c.only_self.ensures.single c.in_ok-rows.ensures.kept.longer c.requires.desk

pub returns-clause-made : goal.returns-clause-made
returns-clause-made c = λ P u x h plain.
    let ts = c.args.pool.now in
    let us = c.call_moves.new.pool in
    let desk = desk_kept ts us c.in_ok-rows.ensures.kept c.args.desk.now P u x c.requires.desk h in
    let p : Routine = procedure_routine c.args.callee.now.number (procedure_at ts c.args.callee.now.procedure.now) in
    let same : in_order (moves_at us c.deref.result.now) ≡ call_of P u p (trees_at ts c.args.arguments.now) c.args.back.now =
    ap (λ (rows : List (Vec Assignment Global)). in_order (moves_at us rows)) c.deref.ensures.value
    ∙ c.in_ok-rows.ensures.tree P h.draft
    ∙ (λ j. call_written P p nowhere (trees_at ts c.args.arguments.now) (c.label_name-label.ensures P u h.draft.naming h.number j) (λ d. nowhere) (λ d. initial_tree P p d.start)) in
    if_ok c.set_all.result _ _ (c.set_all.ensures.made P u x desk (subst (λ (S : Statements). Plain P (graft_all (own_of P) S)) (sym same) plain)) (λ r w.
    writes_self P u x ts us c.set_all.new.pool c.args.desk.now c.only_self.result c.args.out.now.items c.set_all.new.out.items c.args.before.now r _ _ c.in_ok-rows.ensures.kept c.requires.items desk c.only_self.ensures.old
    c.only_self.ensures.single (ap (graft_all (own_of P)) same) w)
