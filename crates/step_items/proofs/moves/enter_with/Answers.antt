-- Proves that a call is written with what it is one statement with.
use Rattle.std.proofs.Common.{◌≡◌, IfOk, sym, subst}
use Rattle.tla_tree.specs.Pool.{trees_at}
use Rattle.module_tree.specs.Formulas.{self}
use Rattle.pcal_tree.specs.Algorithm.{Routine, procedure_routine}
use Rattle.pcal_tree.specs.Expand.{graft_all}
use Rattle.pcal_tree.specs.InMemory.{procedure_at}
use Rattle.pcal_tree.specs.Run as tree
use Rattle.action_builder.specs.Jumps.{call_with}
use Rattle.action_builder.specs.LabelActions.{no_jump_places, written_initials}
use Rattle.right_sides.specs.After.{put_items}
use Rattle.step_items.specs.declared.partner.Partner.{Partner}
use Rattle.step_items.specs.Partners.{IsPartner}
use Rattle.step_items.specs.Writing.{own_of, Plain, Writes}
use Rattle.step_items.proofs.moves.enter_with.Goals as goal

pub returns-in-None-clause-made : goal.returns-in-None-clause-made
returns-in-None-clause-made c = λ P u x h one s j is.
    let ts = c.args.pool.now in
    let p : Routine = procedure_routine c.args.callee.now.number (procedure_at ts c.args.callee.now.procedure.now) in
    let same : j ≡ tree.no_partner = subst (λ (o : Partner). IsPartner o j) c.in-None.is is in
    subst (λ (k : tree.Partner). Plain P (graft_all (own_of P) (call_with P u (written_initials P) no_jump_places s (trees_at ts c.args.arguments.now) c.args.follow.now k p))
    → IfOk c.enter.result (λ r. Writes P (put_items self x) ts c.enter.new.pool c.args.out.now.items c.enter.new.out.items c.args.before.now r
    (graft_all (own_of P) (call_with P u (written_initials P) no_jump_places s (trees_at ts c.args.arguments.now) c.args.follow.now k p)))) (sym same) (c.enter.ensures.made P u x h)

pub returns-in-Goto-clause-made : goal.returns-in-Goto-clause-made
returns-in-Goto-clause-made c = λ P u x h one s j is.
    let ts = c.args.pool.now in
    let p : Routine = procedure_routine c.args.callee.now.number (procedure_at ts c.args.callee.now.procedure.now) in
    let same : j ≡ tree.goto_partner c.in-Goto.label.now = subst (λ (o : Partner). IsPartner o j) c.in-Goto.is is in
    subst (λ (k : tree.Partner). Plain P (graft_all (own_of P) (call_with P u (written_initials P) no_jump_places s (trees_at ts c.args.arguments.now) c.args.follow.now k p))
    → IfOk c.enter-in-Goto.result (λ r. Writes P (put_items self x) ts c.enter-in-Goto.new.pool c.args.out.now.items c.enter-in-Goto.new.out.items c.args.before.now r
    (graft_all (own_of P) (call_with P u (written_initials P) no_jump_places s (trees_at ts c.args.arguments.now) c.args.follow.now k p)))) (sym same) (c.enter-in-Goto.ensures.made P u x h)

pub returns-in-Return-clause-made : goal.returns-in-Return-clause-made
returns-in-Return-clause-made c = λ P u x h one s j is.
    let ts = c.args.pool.now in
    let p : Routine = procedure_routine c.args.callee.now.number (procedure_at ts c.args.callee.now.procedure.now) in
    let same = subst (λ (o : Partner). IsPartner o j) c.in-Return.is is in
    subst (λ (k : tree.Partner). Plain P (graft_all (own_of P) (call_with P u (written_initials P) no_jump_places s (trees_at ts c.args.arguments.now) c.args.follow.now k p))
    → IfOk c.enter_and_leave.result (λ r. Writes P (put_items self x) ts c.enter_and_leave.new.pool c.args.out.now.items c.enter_and_leave.new.out.items c.args.before.now r
    (graft_all (own_of P) (call_with P u (written_initials P) no_jump_places s (trees_at ts c.args.arguments.now) c.args.follow.now k p)))) (sym same.1) (c.enter_and_leave.ensures.made P u x h one)
