-- Proves that what a name reads is there besides.
use Rattle.std.proofs.lemmas.Result.{on_ok_weaker}
use Rattle.std.proofs.Common.{◌≡◌, suc, ◌-◌, List, length, get_or, ◌∙◌, sym, ap, arith}
use Rattle.algorithm_limits.specs.Numbers.{number_of}
use Rattle.read_rules.specs.declared.names.Names.{Names}
use Rattle.read_rules.proofs.ReadLaws.{joins_nothing, number_past, joins_there}
use Rattle.read_rules.proofs.definitions.Reads.add_through.Goals as goal

pub returns-then-number-eq0 : goal.returns-then-number-eq0
returns-then-number-eq0 c = λ ds a. joins_nothing c.args.self.now ds c.args.into.now c.args.name.now a (sym c.get-number.ensures ∙ c.if-number-eq0.true)

pub returns-then-number-lists : goal.returns-then-number-lists
returns-then-number-lists c = λ ds a.
    let all = ap (λ (ls : List Names). length ls) c.as_slice-lists.ensures.value in
    number_past c.args.self.now ds c.args.name.now a (omega (arith, c.if-number-lists.true, all, c.get-number.ensures))

pub returns : goal.returns
returns c =
    on_ok_weaker c.add_all.result
    (λ done ds a.
    let r = c.args.self.now in
    let x = c.args.name.now in
    let s = c.index-lists-place.result in
    let place = c.get-number.result - 1 in
    let e : number_of r.numbers x ≡ suc place = omega (arith, c.if-number-eq0.false, c.get-number.ensures) in
    let all = ap (λ (ls : List Names). length ls) c.as_slice-lists.ensures.value in
    joins_there r ds c.args.into.now c.add_all.new.self x place s a e (c.index-lists-place.is ∙ ap (λ (ls : List Names). get_or ls place s) c.as_slice-lists.ensures.value)
    (omega (arith, c.if-number-lists.false, c.if-number-eq0.false, all)) done) c.add_all.ensures
