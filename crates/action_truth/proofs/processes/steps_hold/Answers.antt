-- Proves that all disjuncts but Terminating are visited.
use Rattle.std.proofs.Common.{◌+◌, List, drop, length, refl, sym, ap, subst, ◌∙◌, arith}
use Rattle.std.proofs.lemmas.List.{drop_all}
use Rattle.tla_value.specs.Limits.{bounded}
use Rattle.tla_value.specs.Meaning.{Env}
use Rattle.module_tree.specs.ActionTruth.{some_way_holds}
use Rattle.module_tree.specs.Ways.{steps_of}
use Rattle.module_write.specs.declared.«module».Way.{Way}
use Rattle.module_write.specs.InMemory.{way_at, ways_at}
use Rattle.value_forms.specs.Gives.{Stops}
use Rattle.value_forms.proofs.StopLaws.{tells_err}
use Rattle.action_truth.specs.Pairs.{env_at, all_acts, step_in}
use Rattle.action_truth.proofs.ListLaws.{rest_is, any_start, any_next, any_stop, any_end}
use Rattle.action_truth.proofs.ScopeLaws.{same_env, stands_still, still_then}
use Rattle.action_truth.proofs.Disjunctions.{any_step, way_within}
use Rattle.action_truth.proofs.processes.steps_hold.Goals as goal

pub loop-way-init : goal.loop-way-init
loop-way-init c = record { same = any_start _; still = record { names = refl; values = refl } }

pub step_holds-requires-clause-within : goal.step_holds-requires-clause-within
step_holds-requires-clause-within c = way_within (length c.args.pair.now.asked.pool.now) c.args.ways.now c.loop-way.way-index c.way-item.result c.way-item.is c.loop-way-test.true c.requires.within

pub step_holds-requires-clause-stands : goal.step_holds-requires-clause-stands
step_holds-requires-clause-stands c = stands_still c.args.pair.now c.args.bound.now c.loop-way.bound c.requires.stands c.loop-way.invariant.still

pub returns-in_err-holds : goal.returns-in_err-holds
returns-in_err-holds c =
    let p = c.args.pair.now in
    let ts = p.asked.pool.now in
    let env = env_at p c.args.bound.now in
    let acts = all_acts p in
    let ys = c.args.ways.now in
    let i = c.loop-way.way-index in
    let k = c.in_err-holds.field-0.0 in
    tells_err c.from_residual.result k _ c.from_residual.ensures
    (any_stop (λ (l : List Way). some_way_holds bounded env acts (steps_of (ways_at ts l))) (λ (y : Way). step_in env acts (way_at ts y)) (any_step ts env acts) _ (drop i ys) (drop (i + 1) ys) c.way-item.result c.loop-way.found k
    (rest_is ys i c.way-item.result c.way-item.is c.loop-way-test.true)
    (subst (λ (e : Env). Stops k (step_in e acts (way_at ts c.way-item.result))) (same_env p c.args.bound.now c.loop-way.bound c.loop-way.invariant.still) c.in_err-holds.ensures.holds) c.loop-way.invariant.same)

pub loop-way-preserved : goal.loop-way-preserved
loop-way-preserved c =
    let p = c.args.pair.now in
    let ts = p.asked.pool.now in
    let env = env_at p c.args.bound.now in
    let acts = all_acts p in
    let ys = c.args.ways.now in
    let i = c.loop-way.way-index in record {
      same =
          any_next (λ (l : List Way). some_way_holds bounded env acts (steps_of (ways_at ts l))) (λ (y : Way). step_in env acts (way_at ts y)) (any_step ts env acts) _ (drop i ys) (drop (i + 1) ys) c.way-item.result c.loop-way.found c.or_found-found.result c.in_ok-holds.holds
          (rest_is ys i c.way-item.result c.way-item.is c.loop-way-test.true)
          (ap (λ (e : Env). step_in e acts (way_at ts c.way-item.result)) (sym (same_env p c.args.bound.now c.loop-way.bound c.loop-way.invariant.still)) ∙ c.in_ok-holds.ensures.holds)
          c.or_found-found.ensures c.loop-way.invariant.same;
      still = still_then c.args.bound.now c.loop-way.bound c.step_holds.new.bound c.loop-way.invariant.still c.in_ok-holds.ensures.bound;
    }

pub returns : goal.returns
returns c =
    let p = c.args.pair.now in
    let ts = p.asked.pool.now in
    let env = env_at p c.args.bound.now in
    let acts = all_acts p in
    any_end (λ (l : List Way). some_way_holds bounded env acts (steps_of (ways_at ts l))) (λ (y : Way). step_in env acts (way_at ts y)) (any_step ts env acts) _ (drop c.loop-way.way-index c.args.ways.now) c.loop-way.found
    (drop_all c.loop-way.way-index c.args.ways.now (omega (arith, c.loop-way-test.false))) c.loop-way.invariant.same
