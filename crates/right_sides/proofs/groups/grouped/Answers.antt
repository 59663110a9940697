-- Proves that each assignment is put into its group.
use Rattle.std.proofs.Common.{slice_index_or, arith}
use Rattle.std.proofs.lemmas.List.{get_or_default}
use Rattle.tla_tree.proofs.PoolNumbers.{past_at}
use Rattle.pcal_tree.specs.declared.algorithm.Assignment.{Assignment}
use Rattle.pcal_tree.specs.InMemory.{past_assignment}
use Rattle.right_sides.proofs.GroupLaws.{grouped_next}
use Rattle.right_sides.proofs.groups.grouped.Goals as goal

abbrev unset : Assignment
unset = record { left = 0; right = 0 }

pub variable-requires : goal.variable-requires
variable-requires c =
    let ms = c.args.assignments.now in
    let m = slice_index_or ms c.loop-one.one-index unset in
    let past = past_at past_assignment ms c.loop-one.one-index m (get_or_default ms c.loop-one.one-index unset m c.loop-one-test.true) c.loop-one-test.true in
    omega (arith, past, c.requires)

pub loop-one-preserved : goal.loop-one-preserved
loop-one-preserved c =
    let ms = c.args.assignments.now in
    let m = slice_index_or ms c.loop-one.one-index unset in
    let said = c.in_ok-add.ensures in
    grouped_next c.args.pool.now c.loop-one.groups.entries c.add.new.groups.entries ms c.loop-one.one-index m c.in_ok-name.name c.loop-one.invariant (get_or_default ms c.loop-one.one-index unset m c.loop-one-test.true) c.loop-one-test.true c.in_ok-name.ensures
    (said.groups c.args.pool.now) said.past c.requires
