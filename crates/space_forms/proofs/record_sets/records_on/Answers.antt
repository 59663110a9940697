-- Proves what is asked of `records_on`.
use Rattle.std.proofs.Common.{◌≡◌, ◌<◌, ◌∙◌, sym, ap, subst, arith}
use Rattle.tla_token.specs.Limits.{most_members}
use Rattle.tla_value.specs.Value.{set, values_in}
use Rattle.tla_value.specs.Limits.{bounded}
use Rattle.tla_value.specs.Sets.{functions_over}
use Rattle.value_forms.specs.Gives.{Tells}
use Rattle.value_forms.proofs.PartLaws.{set_over}
use Rattle.space_forms.specs.Spaces.{ways, beside}
use Rattle.space_forms.proofs.SpaceLaws.{functions_counted}
use Rattle.space_forms.proofs.RecordLaws.{beside_spaces, no_functions}
use Rattle.space_forms.proofs.record_sets.records_on.Goals as goal

pub returns-in-Some-eq0 : goal.returns-in-Some-eq0
returns-in-Some-eq0 c =
    let ds = values_in c.args.domain.now in
    let ss = beside c.args.keys.now c.args.sets.now c.args.domain.now in
    let none : ways ss ≡ 0 = omega (arith, c.in-Some-eq0.ensures.0, c.in-Some-eq0.field-0-is) in
    subst (λ l. Tells c.set_in_order.result (bounded c.args.at (set l)))
    (ap values_in c.new.ensures.items ∙ sym (no_functions ds ss (beside_spaces c.args.keys.now c.args.sets.now c.args.domain.now c.requires.sets) none))
    c.set_in_order.ensures

pub returns-in-None : goal.returns-in-None
returns-in-None c =
    let ds = values_in c.args.domain.now in
    let ss = beside c.args.keys.now c.args.sets.now c.args.domain.now in
    set_over c.args.at (functions_over ds ss) (subst (λ n. most_members < n) (sym (functions_counted ds ss (beside_spaces c.args.keys.now c.args.sets.now c.args.domain.now c.requires.sets))) c.in-None.ensures)
