-- Proves that labels are added one after the other.
use Rattle.std.proofs.Common.{◌∙◌, arith}
use Rattle.std.proofs.lemmas.List.{length_push}
use Rattle.std.proofs.lemmas.Iterator.Adapters.{YieldsList-from_vec}
use Rattle.std.proofs.lemmas.Iterator.Consumers.{YieldsList-turn, YieldsList-end}
use Rattle.tla_tree.proofs.PoolNumbers.{past_at}
use Rattle.pcal_tree.specs.InMemory.{macro_at, past_macro}
use Rattle.added_labels.specs.Bodies.{macro_with, past_macro as names_past_macro}
use Rattle.added_labels.proofs.BodyLaws.{next_with, all_with, next_numbers, all_numbers}
use Rattle.added_labels.proofs.bodies.in_macros.Goals as goal

pub in_macro-requires-clause-numbers : goal.in_macro-requires-clause-numbers
in_macro-requires-clause-numbers c =
    let y = YieldsList-turn (YieldsList-from_vec {s = c.into_iter-one-iterator.result} c.args.list.items c.into_iter-one-iterator.ensures.into_iter_gives.0 (c.into_iter-one-iterator.ensures.into_iter_gives.1 ∙ c.args.list.ok.0)) c.loop-one.yielded c.loop-one.one-iterator c.loop-one.yielded_by c.next.result c.next.new.self c.in-Some.one c.in-Some.is c.next.ensures.steps in
    let within = past_at past_macro c.args.list.items _ c.in-Some.one y.1 y.0 in
    omega (arith, within, c.requires.numbers)

pub loop-one-preserved : goal.loop-one-preserved
loop-one-preserved c =
    let y = YieldsList-turn (YieldsList-from_vec {s = c.into_iter-one-iterator.result} c.args.list.items c.into_iter-one-iterator.ensures.into_iter_gives.0 (c.into_iter-one-iterator.ensures.into_iter_gives.1 ∙ c.args.list.ok.0)) c.loop-one.yielded c.loop-one.one-iterator c.loop-one.yielded_by c.next.result c.next.new.self c.in-Some.one c.in-Some.is c.next.ensures.steps in
    let n = length_push c.loop-one.yielded c.in-Some.one in
    record {
      with = next_with (macro_at c.args.pool.now) macro_with names_past_macro c.args.plan.now c.loop-one.plan c.in_macro.new.plan c.args.list.items c.loop-one.out.items _ _ c.in-Some.one c.in_ok-in_macro.field-0 n y (c.loop-one.invariant.with) c.in_ok-in_macro.ensures.with c.push.new.self.items c.in_ok-push.ensures.items;
      numbers = next_numbers past_macro c.args.list.items c.loop-one.out.items _ _ c.in-Some.one c.in_ok-in_macro.field-0 n y c.loop-one.invariant.numbers c.in_ok-in_macro.ensures.numbers c.push.new.self.items c.in_ok-push.ensures.items;
    }

pub returns-clause-with : goal.returns-clause-with
returns-clause-with c =
    let y = YieldsList-end (YieldsList-from_vec {s = c.into_iter-one-iterator.result} c.args.list.items c.into_iter-one-iterator.ensures.into_iter_gives.0 (c.into_iter-one-iterator.ensures.into_iter_gives.1 ∙ c.args.list.ok.0)) c.loop-one.yielded c.loop-one.one-iterator c.loop-one.yielded_by c.next.result c.next.new.self c.in-None.is c.next.ensures.steps in
    all_with (macro_at c.args.pool.now) macro_with names_past_macro c.args.plan.now c.loop-one.plan c.args.list.items c.loop-one.out.items _ (omega (arith, y.1)) (c.loop-one.invariant.with)

pub returns-clause-numbers : goal.returns-clause-numbers
returns-clause-numbers c =
    let y = YieldsList-end (YieldsList-from_vec {s = c.into_iter-one-iterator.result} c.args.list.items c.into_iter-one-iterator.ensures.into_iter_gives.0 (c.into_iter-one-iterator.ensures.into_iter_gives.1 ∙ c.args.list.ok.0)) c.loop-one.yielded c.loop-one.one-iterator c.loop-one.yielded_by c.next.result c.next.new.self c.in-None.is c.next.ensures.steps in
    all_numbers past_macro c.args.list.items c.loop-one.out.items _ (omega (arith, y.1)) c.loop-one.invariant.numbers
