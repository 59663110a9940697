-- Proves that the actions of all procedures are visited.
use Rattle.std.proofs.Common.{◌+◌, List, drop, filter, length, arith}
use Rattle.std.proofs.lemmas.List.{drop_all}
use Rattle.module_tree.specs.ProcessPart.{all_for}
use Rattle.module_tree.specs.Ways.{is_procedure, steps_of}
use Rattle.module_write.specs.declared.«module».Way.{Way}
use Rattle.module_write.specs.InMemory.{way_at, ways_at}
use Rattle.value_forms.proofs.StopLaws.{tells_err}
use Rattle.action_truth.specs.Pairs.{all_acts, shared_in}
use Rattle.action_truth.proofs.ListLaws.{rest_is, any_start, any_next, any_stop, any_end}
use Rattle.action_truth.proofs.Disjunctions.{any_shared, way_within}
use Rattle.action_truth.proofs.processes.procedures_hold.Goals as goal

pub loop-way-init : goal.loop-way-init
loop-way-init c = any_start _

pub shared_holds-requires-clause-within : goal.shared_holds-requires-clause-within
shared_holds-requires-clause-within c = way_within (length c.args.pair.now.asked.pool.now) c.args.ways.now c.loop-way.way-index c.way-item.result c.way-item.is c.loop-way-test.true c.requires.within

pub returns-in_err-holds : goal.returns-in_err-holds
returns-in_err-holds c =
    let p = c.args.pair.now in
    let ts = p.asked.pool.now in
    let acts = all_acts p in
    let v = c.args.who.now in
    let ys = c.args.ways.now in
    let i = c.loop-way.way-index in
    let k = c.in_err-holds.field-0.0 in
    tells_err c.from_residual.result k _ c.from_residual.ensures
    (any_stop (λ (l : List Way). all_for acts v (filter is_procedure (steps_of (ways_at ts l)))) (λ (y : Way). shared_in acts v (way_at ts y)) (any_shared ts acts v) _ (drop i ys) (drop (i + 1) ys) c.way-item.result c.loop-way.found k
    (rest_is ys i c.way-item.result c.way-item.is c.loop-way-test.true) c.in_err-holds.ensures c.loop-way.invariant)

pub loop-way-preserved : goal.loop-way-preserved
loop-way-preserved c =
    let p = c.args.pair.now in
    let ts = p.asked.pool.now in
    let acts = all_acts p in
    let v = c.args.who.now in
    let ys = c.args.ways.now in
    let i = c.loop-way.way-index in
    any_next (λ (l : List Way). all_for acts v (filter is_procedure (steps_of (ways_at ts l)))) (λ (y : Way). shared_in acts v (way_at ts y)) (any_shared ts acts v) _ (drop i ys) (drop (i + 1) ys) c.way-item.result c.loop-way.found c.or_found-found.result c.in_ok-holds.holds
    (rest_is ys i c.way-item.result c.way-item.is c.loop-way-test.true) c.in_ok-holds.ensures c.or_found-found.ensures c.loop-way.invariant

pub returns : goal.returns
returns c =
    let p = c.args.pair.now in
    let ts = p.asked.pool.now in
    let acts = all_acts p in
    let v = c.args.who.now in
    any_end (λ (l : List Way). all_for acts v (filter is_procedure (steps_of (ways_at ts l)))) (λ (y : Way). shared_in acts v (way_at ts y)) (any_shared ts acts v) _ (drop c.loop-way.way-index c.args.ways.now) c.loop-way.found
    (drop_all c.loop-way.way-index c.args.ways.now (omega (arith, c.loop-way-test.false))) c.loop-way.invariant
