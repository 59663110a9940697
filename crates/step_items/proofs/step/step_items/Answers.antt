-- Proves that the items of a step are those of its definition.
use Rattle.std.proofs.Common.{List, ◌≤◌, length, sym, ap, subst, ◌∙◌}
use Rattle.tla_tree.specs.Tree.{Word}
use Rattle.module_tree.specs.Formulas.{self}
use Rattle.module_tree.specs.Module.{test, item, no_items}
use Rattle.module_write.specs.declared.«module».Item.{Item}
use Rattle.module_write.specs.InMemory.{items_at}
use Rattle.pcal_tree.specs.Algorithm.{Statements}
use Rattle.pcal_tree.specs.Variables.{vars}
use Rattle.name_bits.specs.NamesIn.{most}
use Rattle.action_builder.specs.LabelActions.{at_test}
use Rattle.action_builder.specs.Written.{onto}
use Rattle.right_sides.specs.After.{put_one, put_items}
use Rattle.step_items.specs.Writing.{to_finish, Fits, Writes}
use Rattle.step_items.proofs.DeskLaws.{desk_kept, order_is}
use Rattle.step_items.proofs.ListSteps.{named_kept}
use Rattle.step_items.proofs.WholeLaws.{step_written}
use Rattle.step_items.proofs.step.step_items.Goals as goal

pub returns-clause-made : goal.returns-clause-made
returns-clause-made c = λ P u x d f.
    let ts = c.args.pool.now in
    let us = c.add_test.new.pool in
    let vs = c.finished.new.pool in
    let k = c.in_ok-add_test.ensures.kept in
    let label = c.args.label.now in
    let exit = c.args.exit.now in
    let desk = c.args.desk.now in
    let order = desk.draft.now.order.now in
    let o = order_is ts desk P u x d in
    let before = c.add_test.new.items.items in
    let made = c.finished.new.out.items in
    let empty = c.empty-before.result in
    let assigned = c.in_ok-assigned.assigned in
    let few = subst (λ (ws : List Word). length ws ≤ most) (sym o) d.few in
    let begin = c.in_ok-add_test.ensures.made P u x d ∙ ap (λ (is : List Item). onto (items_at ts is) (item (test (put_one self x (at_test P u label))) no_items)) c.new-items.ensures.items in
    let w = subst (λ (ss : Statements). Fits P (to_finish P u label exit ss) ss → Writes P (put_items self x) us vs before made empty assigned (to_finish P u label exit ss)) (named_kept P u ts us k c.args.stmts.now c.requires.there)
    (c.in_ok-assigned.ensures.made P u x (desk_kept ts us k desk P u x c.requires.desk d)) f in
    step_written P u x ts us vs label exit c.args.stmts.now before made c.leave_others.new.items.items empty assigned order o (c.empty-before.ensures.names (vars P)) begin w (c.in_ok-leave_others.ensures.items few vs)
