-- Proves whether a name reads a variable.
use Rattle.std.proofs.Common.{◌≡◌, suc, ◌-◌, List, length, get_or, ◌∙◌, sym, ap, arith}
use Rattle.algorithm_limits.specs.Numbers.{number_of}
use Rattle.read_rules.specs.declared.names.Names.{Names}
use Rattle.read_rules.specs.ReadsIn.{reads_at}
use Rattle.read_rules.specs.WantedIn.{has_some}
use Rattle.read_rules.proofs.ReadLaws.{reads_there}
use Rattle.read_rules.proofs.WantedLaws.{some_past}
use Rattle.read_rules.proofs.definitions.Reads.has_some.Goals as goal

pub returns-then-number-eq0 : goal.returns-then-number-eq0
returns-then-number-eq0 c = λ i. has_some (reads_at c.args.self.now.lists.items ((sym c.if-number-eq0.true ∙ c.get-number.ensures) i))

pub returns-then-number-lists : goal.returns-then-number-lists
returns-then-number-lists c =
    let all = ap (λ (ls : List Names). length ls) c.as_slice-lists.ensures.value in
    some_past c.args.self.now.lists.items (number_of c.args.self.now.numbers c.args.name.now) (omega (arith, c.if-number-lists.true, all, c.get-number.ensures))

pub returns : goal.returns
returns c =
    let r = c.args.self.now in
    let x = c.args.name.now in
    let s = c.index-lists-place.result in
    let place = c.get-number.result - 1 in
    let e : number_of r.numbers x ≡ suc place = omega (arith, c.if-number-eq0.false, c.get-number.ensures) in
    let all = ap (λ (ls : List Names). length ls) c.as_slice-lists.ensures.value in
    c.is_some.ensures ∙ ap has_some c.as_slice.ensures
    ∙ sym (ap has_some (reads_there r x place s e (c.index-lists-place.is ∙ ap (λ (ls : List Names). get_or ls place s) c.as_slice-lists.ensures.value) (omega (arith, c.if-number-lists.false, c.if-number-eq0.false, all))))
