-- Proves that the assignments of a return are set.
use Rattle.std.proofs.Common.{length, sym, ap, ◌∙◌, subst}
use Rattle.tla_token.specs.Signs.{is_among}
use Rattle.tla_token.specs.Places.{nowhere}
use Rattle.pcal_tree.specs.Algorithm.{Assignments, assign, done, then}
use Rattle.pcal_tree.specs.Expand.{graft_assignments}
use Rattle.pcal_tree.specs.InMemory.{assignments_at}
use Rattle.pcal_tree.specs.Variables.{vars}
use Rattle.action_builder.specs.Jumps.{spot}
use Rattle.action_builder.specs.laws.Ready.{LeftSides}
use Rattle.action_builder.specs.laws.InParts.{InParts}
use Rattle.step_items.specs.Writing.{own_of}
use Rattle.step_items.proofs.DeskLaws.{desk_kept}
use Rattle.step_items.proofs.WritesLaws.{if_ok}
use Rattle.step_items.proofs.MoveLaws.{self_in, writes_self}
use Rattle.step_items.proofs.moves.leave.Goals as goal

pub set-requires-clause-after : goal.set-requires-clause-after
set-requires-clause-after c = self_in (length c.args.pool.now) (length c.return_moves.new.pool) c.args.desk.now c.only_self.result c.only_self.ensures.old c.only_self.ensures.single c.in_ok-assignments.ensures.kept.longer c.requires.desk

pub returns-clause-made : goal.returns-clause-made
returns-clause-made c = λ P u x h s plain.
    let ts = c.args.pool.now in
    let us = c.return_moves.new.pool in
    let desk = desk_kept ts us c.in_ok-assignments.ensures.kept c.args.desk.now P u x c.requires.desk h in
    let same = ap (assignments_at us) c.deref.ensures.value ∙ c.in_ok-assignments.ensures.tree P u h.draft h.number h.listed in
    let lefts : LeftSides (is_among (vars P)) (graft_assignments (own_of P) (assignments_at us c.deref.result.now)) = subst (λ (ms : Assignments). LeftSides (is_among (vars P)) (graft_assignments (own_of P) ms)) (sym same) plain.settled.0 in
    let parts : InParts (graft_assignments (own_of P) (assignments_at us c.deref.result.now)) = subst (λ (ms : Assignments). InParts (graft_assignments (own_of P) ms)) (sym same) plain.parts.0 in
    if_ok c.set.result _ _ (c.set.ensures.made P u x desk (spot nowhere) lefts parts) (λ r w.
    writes_self P u x ts us c.set.new.pool c.args.desk.now c.only_self.result c.args.out.now.items c.set.new.out.items c.args.before.now r _ _ c.in_ok-assignments.ensures.kept c.requires.items desk c.only_self.ensures.old c.only_self.ensures.single
    (ap (λ (ms : Assignments). then (spot nowhere) (assign (graft_assignments (own_of P) ms)) done) same) w)
