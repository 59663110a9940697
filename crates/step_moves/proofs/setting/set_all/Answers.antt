-- Proves that parts are set one after another.
use Rattle.std.proofs.Common.{◌≡◌, sym, subst, ap, ◌∙◌, arith, refl}
use Rattle.std.proofs.lemmas.List.{length_push}
use Rattle.std.proofs.lemmas.Iterator.Adapters.{YieldsList-from_vec}
use Rattle.std.proofs.lemmas.Iterator.Consumers.{YieldsList-turn, YieldsList-end}
use Rattle.value_forms.proofs.StopLaws.{err_is}
use Rattle.step_moves.proofs.StateLaws.{one_set, one_stops, all_set, names_stay, of_one, SetFrom}
use Rattle.step_moves.proofs.setting.set_all.Goals as goal

pub loop-one-init : goal.loop-one-init
loop-one-init c = record { set = refl; names = λ xs a h. h }

pub loop-one-preserved : goal.loop-one-preserved
loop-one-preserved c =
    let y = YieldsList-turn (YieldsList-from_vec {s = c.into_iter-one-iterator.result} c.args.all.items c.into_iter-one-iterator.ensures.into_iter_gives.0 (c.into_iter-one-iterator.ensures.into_iter_gives.1 ∙ c.args.all.ok.0)) c.loop-one.yielded c.loop-one.one-iterator c.loop-one.yielded_by c.next.result c.next.new.self c.in-Some.one c.in-Some.is c.next.ensures.steps in
    let n = length_push c.loop-one.yielded c.in-Some.one in
    record {
      set = subst (λ k. SetFrom c.args.all.items k c.args.state.now c.set_one.new.state) (sym n) (one_set c.args.all.items _ c.in-Some.one y.1 y.0 c.args.state.now c.loop-one.state c.set_one.new.state c.in_ok-set_one.ensures.set c.loop-one.invariant.set);
      names = λ xs a h. names_stay xs c.in-Some.one.variable.now c.loop-one.state c.set_one.new.state (of_one xs c.args.all.items _ c.in-Some.one y.1 y.0 a) c.in_ok-set_one.ensures.names (c.loop-one.invariant.names xs a h);
    }

pub returns-in_err-set_one-clause-set : goal.returns-in_err-set_one-clause-set
returns-in_err-set_one-clause-set c =
    let y = YieldsList-turn (YieldsList-from_vec {s = c.into_iter-one-iterator.result} c.args.all.items c.into_iter-one-iterator.ensures.into_iter_gives.0 (c.into_iter-one-iterator.ensures.into_iter_gives.1 ∙ c.args.all.ok.0)) c.loop-one.yielded c.loop-one.one-iterator c.loop-one.yielded_by c.next.result c.next.new.self c.in-Some.one c.in-Some.is c.next.ensures.steps in
    err_is _ c.from_residual.result c.in_err-set_one.field-0.0 _ c.from_residual.ensures
    (one_stops c.args.all.items _ c.in-Some.one y.1 y.0 c.args.state.now c.loop-one.state c.in_err-set_one.field-0.0 c.in_err-set_one.ensures.set c.loop-one.invariant.set)

pub returns-clause-set : goal.returns-clause-set
returns-clause-set c =
    let y = YieldsList-end (YieldsList-from_vec {s = c.into_iter-one-iterator.result} c.args.all.items c.into_iter-one-iterator.ensures.into_iter_gives.0 (c.into_iter-one-iterator.ensures.into_iter_gives.1 ∙ c.args.all.ok.0)) c.loop-one.yielded c.loop-one.one-iterator c.loop-one.yielded_by c.next.result c.next.new.self c.in-None.is c.next.ensures.steps in
    all_set c.args.all.items _ c.args.state.now c.loop-one.state (omega (arith, y.1)) c.loop-one.invariant.set

pub returns-clause-names : goal.returns-clause-names
returns-clause-names c = c.loop-one.invariant.names
