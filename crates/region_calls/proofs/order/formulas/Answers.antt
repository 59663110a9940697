-- Proves what is asked of `formulas`.
use Rattle.std.proofs.Common.{◌≡◌, suc, ◌∷◌, ◌++◌, length, take, drop, sym, ap, ◌∙◌}
use Rattle.std.proofs.lemmas.Iterator.Adapters.{YieldsList-from_vec}
use Rattle.std.proofs.lemmas.Iterator.Consumers.{YieldsList-turn}
use Rattle.region_calls.specs.declared.fairness.SpecLine.{SpecLine}
use Rattle.region_calls.specs.Order.{in_order}
use Rattle.region_calls.proofs.OrderLaws.{taken_at, start_not, steps_not, fair_not}
use Rattle.region_calls.proofs.order.formulas.Goals as goal
use Rattle.region_calls.proofs.order.formulas.Goals.{in_default-via-in-Start+else-others-eq0, in_default-via-in-Steps+else-others-eq1, in_default-via-in-Fair+else-others-eq2}

pub returns-in_default-clause-none : goal.returns-in_default-clause-none
returns-in_default-clause-none c = λ fs e.
    let lines = c.args.lines.items in
    let n = length c.loop-line.yielded in
    let x = c.in-Some.line in
    let from = c.into_iter-line-iterator in
    let y = YieldsList-turn (YieldsList-from_vec {s = from.result} lines from.ensures.into_iter_gives.0 (from.ensures.into_iter_gives.1 ∙ c.args.lines.ok.0)) c.loop-line.yielded c.loop-line.line-iterator c.loop-line.yielded_by c.next.result c.next.new.self x c.in-Some.is c.next.ensures.steps in
    let rest = drop (suc n) lines in
    let all : take n lines ++ x ∷ rest ≡ in_order fs = taken_at n lines x y.0 y.1 ∙ e in
    let with : (z : SpecLine) → x ≡ z → take n lines ++ z ∷ rest ≡ in_order fs = λ z i. ap (λ (z : SpecLine). take n lines ++ z ∷ rest) (sym i) ∙ all in
    elim c.in_default.branch [
      | in_default-via-in-Start+else-others-eq0 w ↦ start_not w.if-others-eq0.false c.loop-line.invariant rest fs (with _ w.in-Start.is)
      | in_default-via-in-Steps+else-others-eq1 w ↦ steps_not w.if-others-eq1.false c.loop-line.invariant rest fs (with _ w.in-Steps.is)
      | in_default-via-in-Fair+else-others-eq2 w ↦ fair_not w.in-Fair.formula w.if-others-eq2.false c.loop-line.invariant rest fs (with _ w.in-Fair.is)
    ]
