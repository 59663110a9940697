-- Proves what is seen in a call of a macro by its name.
use Rattle.std.proofs.lemmas.Result.{on_ok_weaker}
use Rattle.std.proofs.Common.{◌≡◌, suc, ◌-◌, List, length, get_or, ◌∙◌, sym, ap, arith}
use Rattle.tla_tree.specs.Pool.{trees_at}
use Rattle.algorithm_limits.specs.Numbers.{number_of}
use Rattle.read_rules.specs.declared.known.Summary.{Summary}
use Rattle.read_rules.proofs.KnownLaws.{no_call, past_call, found_walks}
use Rattle.read_rules.proofs.known.Known.call_one.Goals as goal

pub returns-then-number-eq0 : goal.returns-then-number-eq0
returns-then-number-eq0 c = λ ms a.
    no_call c.args.self.now ms c.args.name.now (trees_at c.args.pool.now c.args.args.now) c.args.walk.now c.stop.new.self a (sym c.get-number.ensures ∙ c.if-number-eq0.true) c.stop.ensures

pub returns-then-number-summaries : goal.returns-then-number-summaries
returns-then-number-summaries c = λ ms a.
    let k = c.args.self.now in
    let all = ap (λ (ss : List Summary). length ss) c.as_slice-summaries.ensures.value in
    past_call k ms c.args.name.now (trees_at c.args.pool.now c.args.args.now) c.args.walk.now c.stop-then-number-summaries.new.self a (omega (arith, c.if-number-summaries.true, all, c.get-number.ensures))

pub returns : goal.returns
returns c =
    on_ok_weaker c.call.result
    (λ done ms a.
    let k = c.args.self.now in
    let m = c.args.name.now in
    let place = c.get-number.result - 1 in
    let e : number_of k.numbers m ≡ suc place = omega (arith, c.if-number-eq0.false, c.get-number.ensures) in
    found_walks k ms m (trees_at c.args.pool.now c.args.args.now) c.args.walk.now c.call.new.self c.index-summaries-place.result a place e
    (c.index-summaries-place.is ∙ ap (λ (ss : List Summary). get_or ss place c.index-summaries-place.result) c.as_slice-summaries.ensures.value) done) c.call.ensures
