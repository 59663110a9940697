-- Proves that each row is finished.
use Rattle.std.proofs.Common.{ℕ, suc, List, drop, length, ap, sym, subst, ◌∙◌, arith, add-one}
use Rattle.std.proofs.lemmas.List.{length_push}
use Rattle.std.proofs.lemmas.Iterator.Adapters.{YieldsList-from_vec}
use Rattle.std.proofs.lemmas.Iterator.Consumers.{YieldsList-turn, YieldsList-end}
use Rattle.tla_tree.proofs.PoolNumbers.{Keeps-then, past_at}
use Rattle.step_items.specs.declared.statements.Row.{Row}
use Rattle.step_items.specs.Branching.{to_end, past_row, past_rows}
use Rattle.step_items.specs.Writing.{to_write}
use Rattle.step_items.proofs.DeskLaws.{desk_kept, desk_more}
use Rattle.step_items.proofs.ListSteps.{keeps_all, drop_past}
use Rattle.step_items.proofs.RowLaws.{side_grown, past_rows_more, halves_first}
use Rattle.step_items.proofs.RowSteps.{some_within, Unfinished, Finishing, finishing_more, finishing_all}
use Rattle.step_items.proofs.WeightLaws.{from_member}
use Rattle.step_items.proofs.statements.finish_rows.Goals as goal

pub loop-row-init : goal.loop-row-init
loop-row-init c = (
  keeps_all c.args.pool.now,
  (let e = ap past_rows c.new-done.ensures.items in omega (arith, e)),
  λ P u x d bs rows e plain.
      let n = c.args.inner.now in
      let ts = c.args.pool.now in
      let k = c.args.ends in
      let left : Unfinished P u x ts n.before.now n.here.now n.exit.now k c.args.rows.items bs = record { rows = rows; plain = plain; within = some_within k bs e } in
      record { back = bs; halves = halves_first P x n.before.now ts (to_end P u k n.here.now n.exit.now) (λ b. k) c.new-done.result.items (Unfinished P u x ts n.before.now n.here.now n.exit.now k c.args.rows.items bs) bs c.new-done.ensures.items left },
)

pub finish_row-requires-clause-desk : goal.finish_row-requires-clause-desk
finish_row-requires-clause-desk c = desk_more _ _ c.args.desk.now c.loop-row.invariant.0.longer c.requires.desk

pub finish_row-requires-clause-row : goal.finish_row-requires-clause-row
finish_row-requires-clause-row c =
    let y = YieldsList-turn (YieldsList-from_vec {s = c.into_iter-row-iterator.result} c.args.rows.items c.into_iter-row-iterator.ensures.into_iter_gives.0 (c.into_iter-row-iterator.ensures.into_iter_gives.1 ∙ c.args.rows.ok.0)) c.loop-row.yielded c.loop-row.row-iterator c.loop-row.yielded_by c.next.result c.next.new.self c.in-Some.row c.in-Some.is c.next.ensures.steps in
    let past = past_at past_row c.args.rows.items _ c.in-Some.row y.1 y.0 in
    omega (arith, past, c.requires.rows, c.loop-row.invariant.0.longer)

pub loop-row-preserved : goal.loop-row-preserved
loop-row-preserved c =
    let y = YieldsList-turn (YieldsList-from_vec {s = c.into_iter-row-iterator.result} c.args.rows.items c.into_iter-row-iterator.ensures.into_iter_gives.0 (c.into_iter-row-iterator.ensures.into_iter_gives.1 ∙ c.args.rows.ok.0)) c.loop-row.yielded c.loop-row.row-iterator c.loop-row.yielded_by c.next.result c.next.new.self c.in-Some.row c.in-Some.is c.next.ensures.steps in
    let past = past_at past_row c.args.rows.items _ c.in-Some.row y.1 y.0 in
    let ts = c.args.pool.now in
    let us = c.loop-row.pool in
    let vs = c.finish_row.new.pool in
    let kept = c.loop-row.invariant.0 in
    let said = c.in_ok-finish_row.ensures in
    let r = c.in-Some.row in (
      Keeps-then _ _ _ kept said.kept,
      past_rows_more _ _ c.loop-row.done.items c.push.new.self.items c.in_ok-finish_row.field-0 c.loop-row.invariant.1 said.kept.longer said.within c.in_ok-push.ensures.items,
      λ P u x d bs rows e plain.
          let n = c.args.inner.now in
          let k = c.args.ends in
          let m = length c.loop-row.yielded in
          let from = from_member c.args.rows.items m r y.1 y.0 in
          let before = subst (λ (rs : List Row). Finishing P u x ts n.before.now n.here.now n.exit.now k us c.loop-row.done.items rs bs) from (c.loop-row.invariant.2 P u x d bs rows e plain) in
          subst (λ (p : ℕ). Finishing P u x ts n.before.now n.here.now n.exit.now k vs c.push.new.self.items (drop p c.args.rows.items) bs) (sym (length_push c.loop-row.yielded r ∙ add-one m))
          (finishing_more P u x ts n.before.now n.here.now n.exit.now k us vs said.kept c.loop-row.done.items c.push.new.self.items r c.in_ok-finish_row.field-0 (drop (suc m) c.args.rows.items) bs c.loop-row.invariant.1 c.in_ok-push.ensures.items
          (λ b side within fits.
          said.made P u x (desk_kept ts us kept c.args.desk.now P u x c.requires.desk d) b
          (side_grown P x n.before.now ts us kept r.items.items r.reach (to_write P u n.here.now n.exit.now b) _ (omega (arith, past, c.requires.rows)) side) within fits) before),
    )

pub returns-clause-made : goal.returns-clause-made
returns-clause-made c = λ P u x d bs rows e plain.
    let y = YieldsList-end (YieldsList-from_vec {s = c.into_iter-row-iterator.result} c.args.rows.items c.into_iter-row-iterator.ensures.into_iter_gives.0 (c.into_iter-row-iterator.ensures.into_iter_gives.1 ∙ c.args.rows.ok.0)) c.loop-row.yielded c.loop-row.row-iterator c.loop-row.yielded_by c.next.result c.next.new.self c.in-None.is c.next.ensures.steps in
    let n = c.args.inner.now in
    let m = length c.loop-row.yielded in
    finishing_all P u x c.args.pool.now n.before.now n.here.now n.exit.now c.args.ends c.loop-row.pool c.loop-row.done.items bs
    (subst (λ (rs : List Row). Finishing P u x c.args.pool.now n.before.now n.here.now n.exit.now c.args.ends c.loop-row.pool c.loop-row.done.items rs bs) (drop_past c.args.rows.items m (omega (arith, y.1))) (c.loop-row.invariant.2 P u x d bs rows e plain))
