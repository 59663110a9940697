-- Proves what is asked of `records_listed`.
use Rattle.std.proofs.Common.{◌∙◌, sym, ap, subst, arith, map}
use Rattle.tla_value.specs.Value.{set, fun, values_in}
use Rattle.tla_value.specs.Order.{count}
use Rattle.tla_value.specs.Limits.{bounded}
use Rattle.tla_value.specs.Sets.{choices}
use Rattle.tla_value.proofs.ValueLists.{count-values_in}
use Rattle.value_forms.specs.Gives.{Tells}
use Rattle.value_forms.proofs.PartLaws.{set_stored}
use Rattle.space_forms.specs.Spaces.{beside, AreRows, RowsAscend}
use Rattle.space_forms.proofs.SpaceLaws.{choices_are_rows, choices_ascend, functions_listed}
use Rattle.space_forms.proofs.RecordLaws.{beside_spaces, functions_wide}
use Rattle.space_forms.proofs.record_sets.records_listed.Goals as goal

pub returns-then-domain-gt-MOST_MEMBERS : goal.returns-then-domain-gt-MOST_MEMBERS
returns-then-domain-gt-MOST_MEMBERS c =
    let domain = c.args.domain.now in
    functions_wide c.args.at (values_in domain) (beside c.args.keys.now c.args.sets.now domain) (beside_spaces c.args.keys.now c.args.sets.now domain c.requires.sets) (omega (arith, count-values_in domain, c.if-domain-gt-MOST_MEMBERS.true)) c.requires.some

pub listed-requires-clause-domain : goal.listed-requires-clause-domain
listed-requires-clause-domain c =
    let domain = c.args.domain.now in
    set_stored (values_in domain) c.requires.ascending c.requires.parts (omega (arith, count-values_in domain, c.if-domain-gt-MOST_MEMBERS.false))

pub listed-requires-clause-rows : goal.listed-requires-clause-rows
listed-requires-clause-rows c =
    let ds = values_in c.args.domain.now in
    let ss = beside c.args.keys.now c.args.sets.now c.args.domain.now in
    let are = beside_spaces c.args.keys.now c.args.sets.now c.args.domain.now c.requires.sets in
    subst (AreRows (count ds)) (sym (ap (map values_in) c.as_slice.ensures.value ∙ c.in_ok-rows.ensures)) (subst (λ n. AreRows n (choices ss)) (sym c.requires.each) (choices_are_rows ss are))

pub listed-requires-clause-ascending : goal.listed-requires-clause-ascending
listed-requires-clause-ascending c =
    let ss = beside c.args.keys.now c.args.sets.now c.args.domain.now in
    subst RowsAscend (sym (ap (map values_in) c.as_slice.ensures.value ∙ c.in_ok-rows.ensures)) (choices_ascend ss (beside_spaces c.args.keys.now c.args.sets.now c.args.domain.now c.requires.sets))

pub returns : goal.returns
returns c =
    let ds = values_in c.args.domain.now in
    let ss = beside c.args.keys.now c.args.sets.now c.args.domain.now in
    subst (λ l. Tells c.listed.result (bounded c.args.at (set l)))
    (ap (λ ts. values_in (map (fun ds) ts)) (ap (map values_in) c.as_slice.ensures.value ∙ c.in_ok-rows.ensures) ∙ sym (functions_listed ds ss (beside_spaces c.args.keys.now c.args.sets.now c.args.domain.now c.requires.sets)))
    c.listed.ensures
