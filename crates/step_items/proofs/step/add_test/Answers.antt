-- Proves that the test at the label is added.
use Rattle.std.proofs.Common.{ap, ◌∙◌, arith}
use Rattle.tla_token.specs.Signs.{is_among}
use Rattle.tla_tree.specs.Tree.{Tree, graft}
use Rattle.tla_tree.proofs.PoolNumbers.{Keeps-then}
use Rattle.module_tree.specs.Formulas.{self}
use Rattle.module_tree.specs.Module.{test, item, no_items}
use Rattle.module_write.specs.declared.«module».Item.TheVariants.{Test}
use Rattle.module_write.specs.InMemory.{items_at, past_item, past_items}
use Rattle.module_write.proofs.InMemoryGrown.{items_at-kept}
use Rattle.module_write.proofs.ItemEquations.{test_at, past_test}
use Rattle.pcal_tree.specs.Variables.{vars}
use Rattle.pcal_tree.proofs.InMemoryEach.{past_one_more}
use Rattle.name_bits.specs.NamesIn.{names_in}
use Rattle.action_builder.specs.Written.{primed, onto}
use Rattle.right_sides.specs.After.{put_one}
use Rattle.step_items.specs.Branching.{pc_test}
use Rattle.step_items.specs.Writing.{own_of}
use Rattle.step_items.proofs.DeskLaws.{desk_kept}
use Rattle.step_items.proofs.WholeLaws.{no_names, unprimed}
use Rattle.right_sides.proofs.AfterLaws.{items_last}
use Rattle.step_items.proofs.step.add_test.Goals as goal

pub returns-clause-made : goal.returns-clause-made
returns-clause-made c = λ P u x d.
    let ts = c.args.pool.now in
    let us = c.label_test.new.pool in
    let vs = c.in_step.new.pool in
    let old = c.args.items.now.items in
    let k = c.in_ok-at.ensures.kept in
    let l = c.in_ok-made.ensures.kept in
    let made = c.in_ok-made.ensures.tree P u x (desk_kept ts us k c.args.desk.now P u x c.requires.desk d) in
    let plain = unprimed (is_among (names_in (vars P) c.empty.result)) (no_names (vars P) c.empty.result (c.empty.ensures.names (vars P))) (graft (own_of P) (pc_test P u c.args.label.now)) in
    let same = ap (λ (t : Tree). put_one self x t) ((λ i. primed (is_among (names_in (vars P) c.empty.result)) (graft (own_of P) (c.in_ok-at.ensures.tree P u x d i))) ∙ plain) in
    ap (items_at vs) c.in_ok-push.ensures.items
    ∙ items_last vs old (Test c.in_ok-made.made)
    ∙ (λ i. onto (items_at-kept ts vs (Keeps-then ts us vs k l) old c.requires.items i) (item (test_at vs c.in_ok-made.made i) no_items))
    ∙ (λ i. onto (items_at ts old) (item (test ((made ∙ same) i)) no_items))

pub returns-clause-within : goal.returns-clause-within
returns-clause-within c =
    let one = past_one_more past_item c.args.items.now.items (Test c.in_ok-made.made) in
    let all = ap past_items c.in_ok-push.ensures.items in
    omega (arith, one, all, past_test c.in_ok-made.made, c.requires.items, c.in_ok-made.ensures.within, c.in_ok-at.ensures.kept.longer, c.in_ok-made.ensures.kept.longer)
