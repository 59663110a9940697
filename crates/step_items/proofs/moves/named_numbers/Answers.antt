-- Proves that each argument is made.
use Rattle.std.proofs.Common.{ℕ, List, slice_index_or, length, ap, ◌∙◌, arith}
use Rattle.std.proofs.lemmas.List.{get_or_default, take_all}
use Rattle.tla_tree.specs.Tree.{grafts}
use Rattle.tla_tree.specs.Pool.{trees_at}
use Rattle.tla_tree.proofs.PoolNumbers.{Keeps-then, past_at}
use Rattle.pcal_tree.specs.InMemory.{past_number}
use Rattle.action_builder.specs.WrittenNames.{renames}
use Rattle.step_items.proofs.DeskLaws.{desk_grown}
use Rattle.step_items.proofs.AssignmentLaws.{numbers_more, past_numbers_more}
use Rattle.step_items.proofs.moves.named_numbers.Goals as goal

pub by_written_names-requires : goal.by_written_names-requires
by_written_names-requires c =
    let o = slice_index_or c.args.arguments.now c.loop-argument.argument-index 0 in
    let past = past_at past_number c.args.arguments.now c.loop-argument.argument-index o (get_or_default c.args.arguments.now c.loop-argument.argument-index 0 o c.loop-argument-test.true) c.loop-argument-test.true in
    omega (arith, past, c.requires, c.loop-argument.invariant.0.longer)

pub loop-argument-preserved : goal.loop-argument-preserved
loop-argument-preserved c =
    let list = c.args.arguments.now in
    let i = c.loop-argument.argument-index in
    let o = slice_index_or list i 0 in
    let here = get_or_default list i 0 o c.loop-argument-test.true in
    let past = past_at past_number list i o here c.loop-argument-test.true in
    let old = c.args.pool.now in
    let ts = c.loop-argument.pool in
    let us = c.by_written_names.new.pool in
    let said = c.in_ok-by_written_names.ensures in
    let kept = c.loop-argument.invariant.0 in
    let made = c.in_ok-by_written_names.field-0 in (
      Keeps-then _ _ _ kept said.kept,
      past_numbers_more (length ts) (length us) c.loop-argument.made.items c.push.new.self.items made c.loop-argument.invariant.1 said.kept.longer said.within c.in_ok-push.ensures.items,
      λ P u x h.
          numbers_more (renames P u) old ts us kept said.kept c.loop-argument.made.items list c.push.new.self.items i o made (omega (arith, past, c.requires)) here c.loop-argument-test.true
          (said.tree P u _ (desk_grown old ts kept c.args.desk.now P u x h)) c.in_ok-push.ensures.items c.loop-argument.invariant.1 (c.loop-argument.invariant.2 P u x h),
    )

pub returns-clause-tree : goal.returns-clause-tree
returns-clause-tree c = λ P u x h.
    c.loop-argument.invariant.2 P u x h ∙ ap (λ (zs : List ℕ). grafts (renames P u) (trees_at c.args.pool.now zs)) (take_all c.loop-argument.argument-index c.args.arguments.now c.loop-argument-test.false)
