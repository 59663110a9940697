-- Proves that what is known of a macro is found.
use Rattle.std.proofs.Common.{◌≡◌, suc, ◌-◌, List, length, get_or, ◌∙◌, sym, ap, arith}
use Rattle.algorithm_limits.specs.Numbers.{number_of}
use Rattle.label_steps.specs.declared.put.Summary.{Summary}
use Rattle.label_steps.proofs.KnownLaws.{none_known, none_past, one_known}
use Rattle.label_steps.proofs.known.Known.find.Goals as goal

pub returns-then-number-eq0 : goal.returns-then-number-eq0
returns-then-number-eq0 c = λ ms a. none_known c.args.self.now ms c.args.name.now a (sym c.get-number.ensures ∙ c.if-number-eq0.true)

pub returns-then-number-summaries : goal.returns-then-number-summaries
returns-then-number-summaries c = λ ms a.
    let all = ap (λ (ss : List Summary). length ss) c.as_slice-summaries.ensures.value in
    none_past c.args.self.now ms c.args.name.now a (omega (arith, c.if-number-summaries.true, all, c.get-number.ensures))

pub returns : goal.returns
returns c = λ ms a.
    let k = c.args.self.now in
    let m = c.args.name.now in
    let place = c.get-number.result - 1 in
    let e : number_of k.numbers m ≡ suc place = omega (arith, c.if-number-eq0.false, c.get-number.ensures) in
    one_known k ms m c.index-summaries-place.result a place e (c.index-summaries-place.is ∙ ap (λ (ss : List Summary). get_or ss place c.index-summaries-place.result) c.as_slice-summaries.ensures.value)
