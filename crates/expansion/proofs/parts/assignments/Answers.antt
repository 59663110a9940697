-- Proves that each left and right side is made.
use Rattle.std.proofs.Common.{slice_index_or, ◌∙◌, arith}
use Rattle.std.proofs.lemmas.List.{get_or_default}
use Rattle.tla_tree.proofs.PoolNumbers.{Keeps-then, past_at}
use Rattle.pcal_tree.specs.declared.algorithm.Assignment.{Assignment}
use Rattle.pcal_tree.specs.Algorithm.{assignment}
use Rattle.pcal_tree.specs.InMemory.{past_assignment}
use Rattle.expansion_size.specs.FramesIn.{put_by}
use Rattle.macro_arguments.specs.Expressions.{assignment_put}
use Rattle.macro_arguments.proofs.Lists.{assignment_at, assignment_grown, assignments_grow, made_more, made_all, assignments_made}
use Rattle.expansion.proofs.parts.assignments.Goals as goal

pub assignment-requires-clause-there : goal.assignment-requires-clause-there
assignment-requires-clause-there c =
    let none : Assignment = record { left = 0; right = 0 } in
    let o = slice_index_or c.args.list.now c.loop-one.one-index none in
    let past = past_at past_assignment c.args.list.now c.loop-one.one-index o (get_or_default c.args.list.now c.loop-one.one-index none o c.loop-one-test.true) c.loop-one-test.true in
    omega (arith, past, c.requires.there, c.loop-one.invariant.0.longer)

pub loop-one-preserved : goal.loop-one-preserved
loop-one-preserved c =
    let none : Assignment = record { left = 0; right = 0 } in
    let o = slice_index_or c.args.list.now c.loop-one.one-index none in
    let here = get_or_default c.args.list.now c.loop-one.one-index none o c.loop-one-test.true in
    let past = past_at past_assignment c.args.list.now c.loop-one.one-index o here c.loop-one-test.true in
    let old = c.args.pool.now in
    let said = c.in_ok-assignment.ensures in
    let kept = c.loop-one.invariant.0 in (
      Keeps-then _ _ _ kept said.kept,
      made_more past_assignment assignment_at (assignment_put (put_by old c.args.frames.now) old) assignments_grow c.loop-one.pool c.assignment.new.pool said.kept c.loop-one.made.items c.args.list.now c.loop-one.one-index o
          c.in_ok-assignment.field-0 c.loop-one.invariant.1 here c.loop-one-test.true said.within
          ((λ j. assignment (said.left j) (said.right j)) ∙ assignment_grown old c.loop-one.pool kept c.args.frames.now c.requires.inner o (omega (arith, past, c.requires.there))) c.push.new.self.items c.in_ok-push.ensures.items,
    )

pub returns-clause-made : goal.returns-clause-made
returns-clause-made c =
    let old = c.args.pool.now in
    let g = put_by old c.args.frames.now in
    assignments_made g old c.loop-one.pool c.loop-one.made.items c.args.list.now
    (made_all past_assignment assignment_at (assignment_put g old) c.loop-one.pool c.loop-one.made.items c.args.list.now c.loop-one.one-index c.loop-one-test.false c.loop-one.invariant.1)
