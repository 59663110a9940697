-- Proves that the assignment of a jump is set.
use Rattle.std.proofs.Common.{◌≡◌, List, length, sym, ap, ◌∙◌, subst}
use Rattle.tla_token.specs.Places.{nowhere}
use Rattle.pcal_tree.specs.declared.algorithm.Assignment.{Assignment}
use Rattle.pcal_tree.specs.Algorithm.{Assignments, assign, Statements, done, then}
use Rattle.pcal_tree.specs.Expand.{graft_all}
use Rattle.pcal_tree.specs.InMemory.{assignments_at}
use Rattle.action_builder.specs.Jumps.{spot}
use Rattle.step_items.specs.Writing.{jumps_of, own_of, Plain}
use Rattle.step_items.proofs.DeskLaws.{desk_kept}
use Rattle.step_items.proofs.WritesLaws.{if_ok}
use Rattle.step_items.proofs.MoveLaws.{self_in, writes_self}
use Rattle.step_items.proofs.moves.jump.Goals as goal

abbrev jump_of : Assignments → Statements
jump_of ms = then (spot nowhere) (assign ms) done

pub set-requires-clause-after : goal.set-requires-clause-after
set-requires-clause-after c = self_in (length c.args.pool.now) (length c.jump_move.new.pool) c.args.desk.now c.only_self.result c.only_self.ensures.old c.only_self.ensures.single c.in_ok-assignments.ensures.kept.longer c.requires.desk

pub returns-clause-made : goal.returns-clause-made
returns-clause-made c = λ P u x h plain.
    let ts = c.args.pool.now in
    let us = c.jump_move.new.pool in
    let desk = desk_kept ts us c.in_ok-assignments.ensures.kept c.args.desk.now P u x c.requires.desk h in
    let same : jump_of (assignments_at us c.deref.result.now) ≡ (jumps_of P u).goto c.args.label.now = ap (λ (ms : List Assignment). jump_of (assignments_at us ms)) c.deref.ensures.value ∙ c.in_ok-assignments.ensures.tree P u h.draft h.number in
    let plains : Plain P (graft_all (own_of P) (jump_of (assignments_at us c.deref.result.now))) = subst (λ (S : Statements). Plain P (graft_all (own_of P) S)) (sym same) plain in
    if_ok c.set.result _ _ (c.set.ensures.made P u x desk (spot nowhere) plains.settled.0 plains.parts.0) (λ r w.
    writes_self P u x ts us c.set.new.pool c.args.desk.now c.only_self.result c.args.out.now.items c.set.new.out.items c.args.before.now r _ _ c.in_ok-assignments.ensures.kept c.requires.items desk c.only_self.ensures.old
    c.only_self.ensures.single (ap (graft_all (own_of P)) same) w)
