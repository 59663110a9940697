-- Proves that each kind of statement is written.
use Rattle.std.proofs.Common.{◌≡◌, List, ℕ, IfOk, sym, ap, ◌∙◌, subst}
use Rattle.tla_tree.specs.Tree.{Trees, grafts}
use Rattle.tla_tree.specs.Pool.{trees_at}
use Rattle.module_tree.specs.Formulas.{self}
use Rattle.pcal_tree.specs.Algorithm.{Statement, call, Statements}
use Rattle.pcal_tree.specs.Expand.{graft_all}
use Rattle.pcal_tree.specs.InMemory.{simple_at, statements_at}
use Rattle.pcal_tree.specs.Run.{label_of, partner_of}
use Rattle.action_builder.specs.WrittenNames.{renames}
use Rattle.right_sides.specs.After.{put_items}
use Rattle.step_items.specs.Writing.{first_alone, jumps_of, own_of, Plain, Writes}
use Rattle.step_items.proofs.SimpleLaws.{label_put, partner_put}
use Rattle.step_items.proofs.simple.written_one.Goals as goal

pub returns-in-Skip-clause-made : goal.returns-in-Skip-clause-made
returns-in-Skip-clause-made c = λ P u x h s first.
    let ts = c.args.pool.now in
    let of : Statement → Statements = λ st. first_alone P u c.args.around.now.here.now c.args.around.now.exit.now s st (statements_at ts c.args.rest.now) in
    subst (λ (st : Statement). Plain P (of st) → IfOk c.skip.result (λ r. Writes P (put_items self x) ts c.skip.new.pool c.args.out.now.items c.skip.new.out.items c.args.around.now.before.now r (of st))) (sym (ap (simple_at ts) c.in-Skip.is))
    (λ plain. c.skip.ensures.made P u x c.args.around.now.before.now s first)

pub returns-in-Return-clause-made : goal.returns-in-Return-clause-made
returns-in-Return-clause-made c = λ P u x h s first.
    let ts = c.args.pool.now in
    let of : Statement → Statements = λ st. first_alone P u c.args.around.now.here.now c.args.around.now.exit.now s st (statements_at ts c.args.rest.now) in
    subst (λ (st : Statement). Plain P (of st) → IfOk c.leave.result (λ r. Writes P (put_items self x) ts c.leave.new.pool c.args.out.now.items c.leave.new.out.items c.args.around.now.before.now r (of st))) (sym (ap (simple_at ts) c.in-Return.is))
    (c.leave.ensures.made P u x h s)

pub returns-in-Call-clause-made : goal.returns-in-Call-clause-made
returns-in-Call-clause-made c = λ P u x h s first.
    let ts = c.args.pool.now in
    let rest = statements_at ts c.args.rest.now in
    let exit = c.args.around.now.exit.now in
    let of : Statement → Statements = λ st. first_alone P u c.args.around.now.here.now exit s st rest in
    let made : Statements → Type 0 = λ S. Plain P S → IfOk c.called.result (λ r. Writes P (put_items self x) ts c.called.new.pool c.args.out.now.items c.called.new.out.items c.args.around.now.before.now r S) in
    let es : Trees = grafts (renames P u) (trees_at ts c.in-Call.list.items) in
    let given : grafts (renames P u) (trees_at ts c.deref-in-Call.result.now) ≡ es = ap (λ (is : List ℕ). grafts (renames P u) (trees_at ts is)) c.deref-in-Call.ensures.value in
    let same : graft_all (own_of P) ((jumps_of P u).call s c.in-Call.name (grafts (renames P u) (trees_at ts c.deref-in-Call.result.now)) (label_of rest exit) (partner_of rest)) ≡ of (call c.in-Call.name (trees_at ts c.in-Call.list.items)) =
    (λ k. graft_all (own_of P) ((jumps_of P u).call s c.in-Call.name (given k) (sym (label_put (renames P u) rest exit) k) (sym (partner_put (renames P u) rest) k))) in
    subst made (same ∙ sym (ap (λ o. of (simple_at ts o)) c.in-Call.is)) (c.called.ensures.made P u x h s)
