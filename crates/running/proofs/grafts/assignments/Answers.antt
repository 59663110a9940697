-- Proves that each left and right side is made.
use Rattle.std.proofs.Common.{slice_index_or, ap, ◌∙◌, arith}
use Rattle.std.proofs.lemmas.List.{get_or_default}
use Rattle.tla_tree.specs.Tree.{graft}
use Rattle.tla_tree.proofs.PoolNumbers.{Keeps-then, past_at}
use Rattle.pcal_tree.specs.declared.algorithm.Assignment.{Assignment}
use Rattle.pcal_tree.specs.Algorithm.{assignment}
use Rattle.pcal_tree.specs.Expand.{graft_left}
use Rattle.pcal_tree.specs.InMemory.{past_assignment}
use Rattle.running.specs.Prepared.{names_put, own_put}
use Rattle.running.proofs.MadeOnto.{made_more, made_all}
use Rattle.running.proofs.Members.{assignment_before, assignments_twice, assignments_grow, assignments_made}
use Rattle.running.proofs.grafts.assignments.Goals as goal

pub assignment-requires : goal.assignment-requires
assignment-requires c =
    let none : Assignment = record { left = 0; right = 0 } in
    let o = slice_index_or c.args.list.now c.loop-one.one-index none in
    let past = past_at past_assignment c.args.list.now c.loop-one.one-index o (get_or_default c.args.list.now c.loop-one.one-index none o c.loop-one-test.true) c.loop-one-test.true in
    omega (arith, past, c.requires, c.loop-one.invariant.0.longer)

pub loop-one-preserved : goal.loop-one-preserved
loop-one-preserved c =
    let none : Assignment = record { left = 0; right = 0 } in
    let o = slice_index_or c.args.list.now c.loop-one.one-index none in
    let here = get_or_default c.args.list.now c.loop-one.one-index none o c.loop-one-test.true in
    let past = past_at past_assignment c.args.list.now c.loop-one.one-index o here c.loop-one-test.true in
    let old = c.args.pool.now in
    let h = own_put c.args.places.now.own in
    let g = names_put c.args.places.now.local in
    let said = c.in_ok-assignment.ensures in
    let kept = c.loop-one.invariant.0 in
    let left = said.left ∙ ap (λ t. graft_left h (graft_left g t)) (kept.same o.left (omega (arith, past, c.requires))) in
    let right = said.right ∙ ap (λ t. graft h (graft g t)) (kept.same o.right (omega (arith, past, c.requires))) in (
      Keeps-then _ _ _ kept said.kept,
      made_more past_assignment assignment_before (assignments_twice h g) assignments_grow old c.loop-one.pool c.assignment.new.pool said.kept c.loop-one.made.items c.args.list.now c.loop-one.one-index o c.in_ok-assignment.field-0
          c.loop-one.invariant.1 here c.loop-one-test.true said.within
          (λ ms j. assignment (left j) (right j) (assignments_twice h g ms)) c.push.new.self.items c.in_ok-push.ensures.items,
    )

pub returns-clause-made : goal.returns-clause-made
returns-clause-made c =
    let old = c.args.pool.now in
    let h = own_put c.args.places.now.own in
    let g = names_put c.args.places.now.local in
    assignments_made h g old c.loop-one.pool c.loop-one.made.items c.args.list.now
    (made_all past_assignment assignment_before (assignments_twice h g) old c.loop-one.pool c.loop-one.made.items c.args.list.now c.loop-one.one-index c.loop-one-test.false c.loop-one.invariant.1)
