-- Proves that the first label of a name is found.
use Rattle.std.proofs.Common.{map, drop, Bool, cond, Some, ◌+◌, ap, sym, ◌∙◌}
use Rattle.tla_tree.proofs.PoolNumbers.{past_at}
use Rattle.step_spots.specs.Spots.{spot_named}
use Rattle.step_spots.specs.InMemory.{spot_at, past_spot}
use Rattle.step_spots.proofs.FirstSpots.{spot_here, no_spot}
use Rattle.step_spots.proofs.walk.spot_of.Goals as goal

pub loop-i-preserved : goal.loop-i-preserved
loop-i-preserved c = λ ts.
    let ss = c.args.spots.now in
    let i = c.loop-i.i in
    let l = c.args.name.now in
    let s = c.index-spots-i in
    ap (λ (b : Bool). cond b (Some (spot_at ts s.result)) (spot_named (map (spot_at ts) (drop (i + 1) ss)) l)) (sym c.if-has_name.false)
    ∙ sym (spot_here ts ss i s.result s.is c.loop-i-test.true l c.has_name.result c.has_name.ensures) ∙ c.loop-i.invariant ts

pub returns-then-has_name-clause-first : goal.returns-then-has_name-clause-first
returns-then-has_name-clause-first c = λ ts.
    let ss = c.args.spots.now in
    let i = c.loop-i.i in
    let l = c.args.name.now in
    let s = c.index-spots-i in
    ap (λ (b : Bool). cond b (Some (spot_at ts s.result)) (spot_named (map (spot_at ts) (drop (i + 1) ss)) l)) (sym c.if-has_name.true)
    ∙ sym (spot_here ts ss i s.result s.is c.loop-i-test.true l c.has_name.result c.has_name.ensures) ∙ c.loop-i.invariant ts

pub returns-clause-first : goal.returns-clause-first
returns-clause-first c = λ ts. sym (no_spot ts c.args.spots.now c.loop-i.i c.args.name.now c.loop-i-test.false) ∙ c.loop-i.invariant ts

pub returns-then-has_name-clause-within : goal.returns-then-has_name-clause-within
returns-then-has_name-clause-within c = past_at past_spot c.args.spots.now c.loop-i.i c.index-spots-i.result c.index-spots-i.is c.loop-i-test.true
