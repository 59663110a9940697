-- Proves that each of the processes' own disjuncts is visited with its set.
use Rattle.std.proofs.Common.{◌+◌, drop, length, get_or, sym, arith, ◌∙◌}
use Rattle.std.proofs.lemmas.List.{drop_all}
use Rattle.tla_tree.proofs.PoolNumbers.{AllBelow-at, same_default}
use Rattle.value_forms.proofs.StopLaws.{tells_err}
use Rattle.action_truth.specs.Pairs.{scope_at, all_acts}
use Rattle.action_truth.proofs.ListLaws.{rest_is, any_start}
use Rattle.action_truth.proofs.Disjunctions.{case_passed, cases_over, case_next, case_stops, cases_end, way_within}
use Rattle.action_truth.proofs.processes.own_holds.Goals as goal

pub loop-way-init : goal.loop-way-init
loop-way-init c = any_start _

pub is_own-is_mine-requires : goal.is_own-is_mine-requires
is_own-is_mine-requires c = way_within (length c.args.pair.now.asked.pool.now) c.args.ways.now c.loop-way.way-index c.way-item.result c.way-item.is c.loop-way-test.true c.requires.within

pub case_holds-requires-clause-below : goal.case_holds-requires-clause-below
case_holds-requires-clause-below c = AllBelow-at (length c.args.pair.now.asked.pool.now) c.args.own.now c.loop-way.k 0 c.requires.below (omega (arith, c.if-k-own.false))

pub returns-then-k-own : goal.returns-then-k-own
returns-then-k-own c =
    let p = c.args.pair.now in
    cases_over p.asked.pool.now (scope_at p) (all_acts p) c.args.who.now _ c.loop-way.found (drop c.loop-way.way-index c.args.ways.now) (drop c.loop-way.k c.args.own.now) (drop_all c.loop-way.k c.args.own.now (omega (arith, c.if-k-own.true))) c.loop-way.invariant

pub loop-way-preserved-then-not-is_mine : goal.loop-way-preserved-then-not-is_mine
loop-way-preserved-then-not-is_mine c =
    let p = c.args.pair.now in
    let ys = c.args.ways.now in
    let i = c.loop-way.way-index in
    case_passed p.asked.pool.now (scope_at p) (all_acts p) c.args.who.now _ c.loop-way.found (drop i ys) (drop (i + 1) ys) c.way-item.result (drop c.loop-way.k c.args.own.now) (rest_is ys i c.way-item.result c.way-item.is c.loop-way-test.true)
    (sym c.is_own-is_mine.ensures ∙ c.if-not-is_mine.true) c.loop-way.invariant

pub returns-in_err-holds : goal.returns-in_err-holds
returns-in_err-holds c =
    let p = c.args.pair.now in
    let ys = c.args.ways.now in
    let i = c.loop-way.way-index in
    let es = c.args.own.now in
    let k = c.loop-way.k in
    let e = get_or es k 0 in
    tells_err c.from_residual.result c.in_err-holds.field-0.0 _ c.from_residual.ensures
    (case_stops p.asked.pool.now (scope_at p) (all_acts p) c.args.who.now _ c.loop-way.found c.in_err-holds.field-0.0 (drop i ys) (drop (i + 1) ys) c.way-item.result (drop k es) (drop (k + 1) es) e
    (rest_is ys i c.way-item.result c.way-item.is c.loop-way-test.true) (rest_is es k e (same_default es k 0 e (omega (arith, c.if-k-own.false))) (omega (arith, c.if-k-own.false)))
    (sym c.is_own-is_mine.ensures ∙ c.if-not-is_mine.false) c.in_err-holds.ensures c.loop-way.invariant)

pub loop-way-preserved : goal.loop-way-preserved
loop-way-preserved c =
    let p = c.args.pair.now in
    let ys = c.args.ways.now in
    let i = c.loop-way.way-index in
    let es = c.args.own.now in
    let k = c.loop-way.k in
    let e = get_or es k 0 in
    case_next p.asked.pool.now (scope_at p) (all_acts p) c.args.who.now _ c.loop-way.found c.or_found-found.result c.in_ok-holds.holds (drop i ys) (drop (i + 1) ys) c.way-item.result (drop k es) (drop (k + 1) es) e
    (rest_is ys i c.way-item.result c.way-item.is c.loop-way-test.true) (rest_is es k e (same_default es k 0 e (omega (arith, c.if-k-own.false))) (omega (arith, c.if-k-own.false)))
    (sym c.is_own-is_mine.ensures ∙ c.if-not-is_mine.false) c.in_ok-holds.ensures c.or_found-found.ensures c.loop-way.invariant

pub returns : goal.returns
returns c =
    let p = c.args.pair.now in
    cases_end p.asked.pool.now (scope_at p) (all_acts p) c.args.who.now _ c.loop-way.found (drop c.loop-way.way-index c.args.ways.now) (drop c.loop-way.k c.args.own.now)
    (drop_all c.loop-way.way-index c.args.ways.now (omega (arith, c.loop-way-test.false))) c.loop-way.invariant
