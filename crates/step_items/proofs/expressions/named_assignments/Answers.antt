-- Proves that the left and right side of each assignment are made.
use Rattle.std.proofs.Common.{slice_index_or, length, ap, ◌∙◌, arith}
use Rattle.std.proofs.lemmas.List.{get_or_default, take_all}
use Rattle.tla_tree.proofs.PoolNumbers.{Keeps-then, past_at}
use Rattle.pcal_tree.specs.declared.algorithm.Assignment.{Assignment}
use Rattle.pcal_tree.specs.Expand.{graft_assignments}
use Rattle.pcal_tree.specs.InMemory.{assignments_at, past_assignment}
use Rattle.action_builder.specs.WrittenNames.{renames}
use Rattle.step_items.proofs.DeskLaws.{desk_grown, renames_stay}
use Rattle.step_items.proofs.AssignmentLaws.{put_more, past_more}
use Rattle.step_items.proofs.expressions.named_assignments.Goals as goal

pub by_written_names-requires : goal.by_written_names-requires
by_written_names-requires c =
    let none : Assignment = record { left = 0; right = 0 } in
    let o = slice_index_or c.args.assignments.now c.loop-assignment.assignment-index none in
    let past = past_at past_assignment c.args.assignments.now c.loop-assignment.assignment-index o (get_or_default c.args.assignments.now c.loop-assignment.assignment-index none o c.loop-assignment-test.true) c.loop-assignment-test.true in
    omega (arith, past, c.requires, c.loop-assignment.invariant.0.longer)

pub by_written_names-requires-in-loop-assignment : goal.by_written_names-requires-in-loop-assignment
by_written_names-requires-in-loop-assignment c =
    let none : Assignment = record { left = 0; right = 0 } in
    let o = slice_index_or c.args.assignments.now c.loop-assignment.assignment-index none in
    let past = past_at past_assignment c.args.assignments.now c.loop-assignment.assignment-index o (get_or_default c.args.assignments.now c.loop-assignment.assignment-index none o c.loop-assignment-test.true) c.loop-assignment-test.true in
    omega (arith, past, c.requires, c.loop-assignment.invariant.0.longer, c.in_ok-left.ensures.kept.longer)

pub loop-assignment-preserved : goal.loop-assignment-preserved
loop-assignment-preserved c =
    let none : Assignment = record { left = 0; right = 0 } in
    let list = c.args.assignments.now in
    let i = c.loop-assignment.assignment-index in
    let o = slice_index_or list i none in
    let here = get_or_default list i none o c.loop-assignment-test.true in
    let past = past_at past_assignment list i o here c.loop-assignment-test.true in
    let old = c.args.pool.now in
    let ts = c.loop-assignment.pool in
    let mid = c.by_written_names.new.pool in
    let us = c.by_written_names-in-loop-assignment.new.pool in
    let left = c.in_ok-left.ensures in
    let right = c.in_ok-right.ensures in
    let kept = c.loop-assignment.invariant.0 in
    let made : Assignment = record { left = c.in_ok-left.left; right = c.in_ok-right.right } in (
      Keeps-then _ _ _ kept (Keeps-then _ _ _ left.kept right.kept),
      past_more (length ts) (length us) c.loop-assignment.made.items c.push.new.self.items made c.loop-assignment.invariant.1 (omega (arith, left.kept.longer, right.kept.longer)) (omega (arith, left.within, right.kept.longer)) right.within c.in_ok-push.ensures.items,
      λ P u x h.
          let first = desk_grown old ts kept c.args.desk.now P u x h in
          put_more (renames P u) (renames_stay P u) old ts mid us kept left.kept right.kept c.loop-assignment.made.items list c.push.new.self.items i o made (omega (arith, past, c.requires)) here c.loop-assignment-test.true left.within
          (left.tree P u _ first) (right.tree P u _ (desk_grown ts mid left.kept c.args.desk.now P u _ first)) c.in_ok-push.ensures.items c.loop-assignment.invariant.1 (c.loop-assignment.invariant.2 P u x h),
    )

pub returns-clause-tree : goal.returns-clause-tree
returns-clause-tree c = λ P u x h. c.loop-assignment.invariant.2 P u x h ∙ ap (λ zs. graft_assignments (renames P u) (assignments_at c.args.pool.now zs)) (take_all c.loop-assignment.assignment-index c.args.assignments.now c.loop-assignment-test.false)
