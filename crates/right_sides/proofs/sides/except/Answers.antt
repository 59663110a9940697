-- Proves that the EXCEPT has a slot for each assignment to a part.
use Rattle.std.proofs.Common.{slice_index_or, sym, subst, ◌∙◌, arith}
use Rattle.std.proofs.lemmas.List.{get_or_default}
use Rattle.tla_tree.specs.Shapes.{HavePaths}
use Rattle.tla_tree.proofs.PoolNumbers.{past_at}
use Rattle.pcal_tree.specs.declared.algorithm.Assignment.{Assignment}
use Rattle.pcal_tree.specs.InMemory.{past_assignment}
use Rattle.right_sides.proofs.SideLaws.{made_more, made_all, have_paths, slots_some, parts_count}
use Rattle.right_sides.proofs.sides.except.Goals as goal

abbrev unset : Assignment
unset = record { left = 0; right = 0 }

pub add_slot-requires-clause-there : goal.add_slot-requires-clause-there
add_slot-requires-clause-there c =
    let ms = c.args.group.now in
    let m = slice_index_or ms c.loop-one.one-index unset in
    let past = past_at past_assignment ms c.loop-one.one-index m (get_or_default ms c.loop-one.one-index unset m c.loop-one-test.true) c.loop-one-test.true in
    omega (arith, past, c.requires.there)

pub loop-one-preserved : goal.loop-one-preserved
loop-one-preserved c =
    let ms = c.args.group.now in
    let m = slice_index_or ms c.loop-one.one-index unset in
    let said = c.in_ok-add_slot.ensures in
    made_more c.args.pool.now c.args.whole _ _ c.loop-one.parts.items c.add_slot.new.parts.items ms c.loop-one.one-index m c.loop-one.invariant (get_or_default ms c.loop-one.one-index unset m c.loop-one-test.true) c.loop-one-test.true said.slots said.parts said.within

pub put-requires-clause-shaped : goal.put-requires-clause-shaped
put-requires-clause-shaped c =
    let ts = c.args.pool.now in
    let made = made_all ts c.args.whole _ _ c.args.group.now c.loop-one.one-index c.loop-one.invariant c.loop-one-test.false in
    let count = parts_count ts c.args.whole _ _ c.args.group.now made in
    let slots = c.loop-one.slots in
    let some = slots_some slots.items _ _ (sym c.is_empty.ensures ∙ c.if-is_empty.false) slots.ok.0 made.slots_are in
    (subst HavePaths (sym made.slots_are) (have_paths ts c.args.group.now some), omega (arith, count))

pub returns-clause-paths : goal.returns-clause-paths
returns-clause-paths c =
    let ts = c.args.pool.now in
    let made = made_all ts c.args.whole _ _ c.args.group.now c.loop-one.one-index c.loop-one.invariant c.loop-one-test.false in
    let slots = c.loop-one.slots in
    have_paths ts c.args.group.now (slots_some slots.items _ _ (sym c.is_empty.ensures ∙ c.if-is_empty.false) slots.ok.0 made.slots_are)
