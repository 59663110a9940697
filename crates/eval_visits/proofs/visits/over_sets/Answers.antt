-- Proves what is asked of `over_sets`.
use Rattle.std.proofs.Common.{◌≡◌, ◌∙◌, ap, sym, subst, arith, ◌++◌, ◌+◌, [], drop, Ok}
use Rattle.tla_pool.specs.FormOf.{groups_of}
use Rattle.tla_value.specs.Value.{values_in}
use Rattle.tla_value.specs.Stops.{members_at}
use Rattle.eval_visits.specs.Visits.{over_sets, over_group}
use Rattle.value_forms.specs.Gives.{Stops}
use Rattle.value_forms.proofs.StopLaws.{err_is}
use Rattle.eval_visits.proofs.SetLemmas.{sets_behind}
use Rattle.eval_visits.proofs.SetLemmas.{sets_next, sets_stop, sets_end, groups_at, groups_count}
use Rattle.eval_visits.proofs.visits.over_sets.Goals as goal

pub loop-i-preserved : goal.loop-i-preserved
loop-i-preserved c =
    let gs = groups_of c.args.groups.now in let vs = c.args.values.now in let i = c.loop-i.i in let s = values_in c.in_ok-members.members.now in
    let all = over_sets c.args.place gs vs in
    let n = groups_count c.args.groups.now in
    let got = subst (λ v. members_at c.args.place v ≡ Ok s) c.get.ensures c.in_ok-members.ensures.members in
    let pushed = c.in_ok-push_group.ensures ∙ ap (λ l. c.loop-i.names.items ++ over_group l s) c.as_slice.ensures.value in
    subst (λ l. sets_behind l (over_sets c.args.place (drop (i + 1) gs) (drop (i + 1) vs)) ≡ all) (sym pushed)
    (sets_next c.args.place gs vs i c.index-groups-i.result.items c.index-values-i.result c.loop-i.names.items s all (omega (arith, n, c.loop-i-test.true)) (omega (arith, n, c.loop-i-test.true, c.requires)) (groups_at c.args.groups.now i c.index-groups-i.result c.loop-i-test.true c.index-groups-i.is) c.index-values-i.is got c.loop-i.invariant)

pub returns : goal.returns
returns c =
    let n = groups_count c.args.groups.now in
    sets_end c.args.place (groups_of c.args.groups.now) c.args.values.now c.loop-i.i c.loop-i.names.items (over_sets c.args.place (groups_of c.args.groups.now) c.args.values.now) (omega (arith, n, c.loop-i-test.false)) (omega (arith, n, c.loop-i-test.false, c.requires)) c.loop-i.invariant

pub returns-in_err-members : goal.returns-in_err-members
returns-in_err-members c =
    let gs = groups_of c.args.groups.now in let vs = c.args.values.now in let i = c.loop-i.i in let s = c.in_err-members.field-0.0 in
    let n = groups_count c.args.groups.now in
    let stopped = subst (λ v. Stops s (members_at c.args.place v)) c.get.ensures c.in_err-members.ensures.members in
    err_is _ c.from_residual.result s (over_sets c.args.place gs vs) c.from_residual.ensures
    (sets_stop c.args.place gs vs i [] c.index-values-i.result c.loop-i.names.items s (over_sets c.args.place gs vs) (omega (arith, n, c.loop-i-test.true)) (omega (arith, n, c.loop-i-test.true, c.requires)) c.index-values-i.is stopped c.loop-i.invariant)
