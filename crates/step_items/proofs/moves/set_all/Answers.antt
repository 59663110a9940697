-- Proves that the rows are written one after another.
use Rattle.std.proofs.Common.{◌≡◌, List, map, take, refl, sym, ap, ◌∙◌, subst, arith}
use Rattle.std.proofs.lemmas.List.{take_all}
use Rattle.tla_tree.specs.Nesting.{greatest}
use Rattle.tla_tree.proofs.PoolNumbers.{Keeps-then, past_at}
use Rattle.module_tree.specs.Module.{Items}
use Rattle.pcal_tree.specs.declared.algorithm.Assignment.{Assignment}
use Rattle.pcal_tree.specs.Algorithm.{Assignments, assign, Statements, done, then}
use Rattle.pcal_tree.specs.Expand.{graft_assignments, graft_all}
use Rattle.pcal_tree.specs.InMemory.{assignments_at, past_assignment}
use Rattle.pcal_tree.specs.Variables.{vars}
use Rattle.pcal_tree.proofs.InMemoryGrown.{assignments_at-kept}
use Rattle.name_bits.specs.NamesIn.{AllApart}
use Rattle.action_builder.specs.Jumps.{spot}
use Rattle.action_builder.specs.laws.Ready.{LeftSides}
use Rattle.action_builder.specs.laws.InParts.{InParts}
use Rattle.tla_token.specs.Signs.{is_among}
use Rattle.tla_token.specs.Places.{nowhere}
use Rattle.proc_stack.specs.Moves.{in_order, moves_at}
use Rattle.right_sides.specs.After.{after_items}
use Rattle.step_items.specs.Writing.{own_of, Writes}
use Rattle.step_items.proofs.DeskLaws.{desk_grown}
use Rattle.right_sides.proofs.AfterLaws.{after_nothing, after_onto}
use Rattle.step_items.proofs.WritesLaws.{after_kept, writes_none, writes_then}
use Rattle.step_items.proofs.MoveLaws.{rows_unmarked, row_next, plain_row}
use Rattle.step_items.proofs.moves.set_all.Goals as goal

pub loop-row-init : goal.loop-row-init
loop-row-init c =
    let ts = c.args.pool.now in (
      record { longer = omega arith; same = λ i h. refl },
      c.requires.items,
      λ P u x h plain. writes_none P (after_items ts c.args.after.now) ts ts c.args.out.now.items c.args.before.now c.empty-assigned.result refl (after_nothing ts c.args.after.now) (c.empty-assigned.ensures.names (vars P)),
    )

pub set-requires-clause-below : goal.set-requires-clause-below
set-requires-clause-below c =
    let past = past_at (λ r. greatest (map past_assignment r.items)) c.args.rows.now c.loop-row.row-index c.row-item.result c.row-item.is c.loop-row-test.true in
    let same = ap (λ (ms : List Assignment). greatest (map past_assignment ms)) c.deref.ensures.value in
    omega (arith, past, same, c.requires.below, c.loop-row.invariant.0.longer)

pub loop-row-preserved : goal.loop-row-preserved
loop-row-preserved c =
    let rows = c.args.rows.now in
    let i = c.loop-row.row-index in
    let row = c.row-item.result in
    let old = c.args.pool.now in
    let ts = c.loop-row.pool in
    let us = c.set.new.pool in
    let kept = c.loop-row.invariant.0 in
    let past = past_at (λ r. greatest (map past_assignment r.items)) rows i row c.row-item.is c.loop-row-test.true in (
      Keeps-then _ _ _ kept c.in_ok-more.ensures.kept,
      c.in_ok-more.ensures.within,
      λ P u x h plain.
          let g : Items → Items = after_items old c.args.after.now in
          let apart : AllApart (vars P) = subst AllApart h.draft.order c.apart.ensures in
          let same : assignments_at ts c.deref.result.now ≡ assignments_at old row.items = ap (assignments_at ts) c.deref.ensures.value ∙ assignments_at-kept old ts kept row.items (omega (arith, past, c.requires.below)) in
          let fits = plain_row P (own_of P) old rows i row plain c.row-item.is c.loop-row-test.true in
          let made = c.in_ok-more.ensures.made P u _ (desk_grown old ts kept c.args.desk.now P u x h) (spot nowhere) (subst (λ (ms : Assignments). LeftSides (is_among (vars P)) (graft_assignments (own_of P) ms)) (sym same) fits.0)
          (subst (λ (ms : Assignments). InParts (graft_assignments (own_of P) ms)) (sym same) fits.1) in
          let next : Assignments → Statements = λ ms. then (spot nowhere) (assign (graft_assignments (own_of P) ms)) done in
          let second : Writes P g ts us c.loop-row.out.items c.set.new.out.items c.union-so_far.result c.in_ok-more.more (next (assignments_at old row.items)) =
          subst (λ (ms : Assignments). Writes P g ts us c.loop-row.out.items c.set.new.out.items c.union-so_far.result c.in_ok-more.more (next ms)) same
          (subst (λ (f : Items → Items). Writes P f ts us c.loop-row.out.items c.set.new.out.items c.union-so_far.result c.in_ok-more.more (next (assignments_at ts c.deref.result.now))) (after_kept old ts kept c.args.after.now c.requires.after) made) in
          subst (Writes P g old us c.args.out.now.items c.set.new.out.items c.args.before.now c.union-assigned.result) (row_next (own_of P) old rows i row c.row-item.is c.loop-row-test.true)
          (writes_then P g old ts us c.args.out.now.items c.loop-row.out.items c.set.new.out.items c.args.before.now c.loop-row.assigned c.union-so_far.result c.in_ok-more.more c.union-assigned.result _ (next (assignments_at old row.items))
          (after_onto old c.args.after.now) (rows_unmarked (own_of P) (moves_at old (take i rows))) (c.union-so_far.ensures.among (vars P) apart) (c.union-assigned.ensures.among (vars P) apart) (c.loop-row.invariant.2 P u x h plain) second),
    )

pub returns-clause-made : goal.returns-clause-made
returns-clause-made c = λ P u x h plain.
    let old = c.args.pool.now in
    subst (λ rows. Writes P (after_items old c.args.after.now) old c.loop-row.pool c.args.out.now.items c.loop-row.out.items c.args.before.now c.loop-row.assigned (graft_all (own_of P) (in_order (moves_at old rows))))
    (take_all c.loop-row.row-index c.args.rows.now c.loop-row-test.false) (c.loop-row.invariant.2 P u x h plain)
