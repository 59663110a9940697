-- Proves that each row has its list.
use Rattle.std.proofs.Common.{ap, ◌∙◌, arith}
use Rattle.std.proofs.lemmas.List.{length_push, take_all}
use Rattle.std.proofs.lemmas.Iterator.Adapters.{YieldsList-from_vec}
use Rattle.std.proofs.lemmas.Iterator.Consumers.{YieldsList-turn, YieldsList-end}
use Rattle.tla_tree.proofs.PoolNumbers.{Keeps-then, past_at}
use Rattle.name_bits.specs.NamesIn.{names_in}
use Rattle.step_items.specs.Branching.{past_row, closed_lists}
use Rattle.step_items.proofs.RowLaws.{closed_more, past_lists_more}
use Rattle.step_items.proofs.statements.close_rows.Goals as goal

pub close-requires : goal.close-requires
close-requires c =
    let y = YieldsList-turn (YieldsList-from_vec {s = c.into_iter-row-iterator.result} c.args.rows.items c.into_iter-row-iterator.ensures.into_iter_gives.0 (c.into_iter-row-iterator.ensures.into_iter_gives.1 ∙ c.args.rows.ok.0)) c.loop-row.yielded c.loop-row.row-iterator c.loop-row.yielded_by c.next.result c.next.new.self c.in-Some.row c.in-Some.is c.next.ensures.steps in
    let past = past_at past_row c.args.rows.items _ c.in-Some.row y.1 y.0 in
    omega (arith, past, c.requires.rows, c.loop-row.invariant.0.longer)

pub loop-row-preserved : goal.loop-row-preserved
loop-row-preserved c =
    let y = YieldsList-turn (YieldsList-from_vec {s = c.into_iter-row-iterator.result} c.args.rows.items c.into_iter-row-iterator.ensures.into_iter_gives.0 (c.into_iter-row-iterator.ensures.into_iter_gives.1 ∙ c.args.rows.ok.0)) c.loop-row.yielded c.loop-row.row-iterator c.loop-row.yielded_by c.next.result c.next.new.self c.in-Some.row c.in-Some.is c.next.ensures.steps in
    let past = past_at past_row c.args.rows.items _ c.in-Some.row y.1 y.0 in
    let order = c.args.order.now in
    let kept = c.loop-row.invariant.0 in
    let said = c.in_ok-close.ensures in (
      Keeps-then _ _ _ kept said.kept,
      past_lists_more _ _ c.loop-row.branches.items c.push.new.self.items c.close.new.items c.loop-row.invariant.1 said.kept.longer said.within c.in_ok-push.ensures.items,
      closed_more order c.args.place (names_in order c.args.all.now) c.args.pool.now c.loop-row.pool c.close.new.pool kept said.kept c.args.rows.items _ _ c.in-Some.row y.1 y.0 (length_push c.loop-row.yielded c.in-Some.row) (omega (arith, past, c.requires.rows))
          c.loop-row.branches.items c.push.new.self.items c.close.new.items c.loop-row.invariant.1 c.loop-row.invariant.2 said.items c.in_ok-push.ensures.items,
    )

pub returns-clause-made : goal.returns-clause-made
returns-clause-made c =
    let y = YieldsList-end (YieldsList-from_vec {s = c.into_iter-row-iterator.result} c.args.rows.items c.into_iter-row-iterator.ensures.into_iter_gives.0 (c.into_iter-row-iterator.ensures.into_iter_gives.1 ∙ c.args.rows.ok.0)) c.loop-row.yielded c.loop-row.row-iterator c.loop-row.yielded_by c.next.result c.next.new.self c.in-None.is c.next.ensures.steps in
    let order = c.args.order.now in
    c.loop-row.invariant.2 ∙ ap (closed_lists order c.args.place (names_in order c.args.all.now) c.args.pool.now) (take_all _ c.args.rows.items (omega (arith, y.1)))
