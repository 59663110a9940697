-- Proves what is asked of `functions_on`.
use Rattle.std.proofs.Common.{◌∙◌, sym, ap, subst, map}
use Rattle.std.specs.Prelude.{not}
use Rattle.tla_value.specs.Value.{set, fun, values_in}
use Rattle.tla_value.specs.Order.{count}
use Rattle.tla_value.specs.Limits.{bounded}
use Rattle.tla_value.specs.Sets.{choices, repeated, functions_over}
use Rattle.tla_value.proofs.ValueLists.{count-values_in}
use Rattle.value_forms.specs.Gives.{Tells}
use Rattle.value_forms.proofs.PartLaws.{set_over}
use Rattle.space_forms.specs.Spaces.{power_rows, AreRows, RowsAscend}
use Rattle.space_forms.proofs.SpaceLaws.{is_space, repeated_spaces, count_repeated, power_choices, choices_are_rows, choices_ascend, functions_listed, many_over}
use Rattle.space_forms.proofs.spaces.functions_on.Goals as goal

pub returns-then-is_none : goal.returns-then-is_none
returns-then-is_none c =
    let ds = values_in c.args.domain.now in
    set_over c.args.at (functions_over ds (repeated ds (set (values_in c.args.results.now)))) (many_over c.args.domain.now c.args.results.now c.many_functions.result c.requires.results (c.is_none.ensures ∙ ap not c.if-is_none.true) c.many_functions.ensures)

pub listed-requires-clause-rows : goal.listed-requires-clause-rows
listed-requires-clause-rows c =
    let ds = values_in c.args.domain.now in
    let s = set (values_in c.args.results.now) in
    let rows = ap (map values_in) (c.as_slice.ensures.value ∙ c.in_ok-rows.ensures ∙ ap (λ n. power_rows n c.args.results.now) (sym (count-values_in c.args.domain.now))) ∙ power_choices c.args.results.now ds in
    subst (AreRows (count ds)) (sym rows) (subst (λ n. AreRows n (choices (repeated ds s))) (count_repeated ds s) (choices_are_rows (repeated ds s) (repeated_spaces ds s (is_space s c.requires.results))))

pub listed-requires-clause-ascending : goal.listed-requires-clause-ascending
listed-requires-clause-ascending c =
    let ds = values_in c.args.domain.now in
    let s = set (values_in c.args.results.now) in
    let rows = ap (map values_in) (c.as_slice.ensures.value ∙ c.in_ok-rows.ensures ∙ ap (λ n. power_rows n c.args.results.now) (sym (count-values_in c.args.domain.now))) ∙ power_choices c.args.results.now ds in
    subst RowsAscend (sym rows) (choices_ascend (repeated ds s) (repeated_spaces ds s (is_space s c.requires.results)))

pub returns : goal.returns
returns c =
    let ds = values_in c.args.domain.now in
    let s = set (values_in c.args.results.now) in
    let rows = ap (map values_in) (c.as_slice.ensures.value ∙ c.in_ok-rows.ensures ∙ ap (λ n. power_rows n c.args.results.now) (sym (count-values_in c.args.domain.now))) ∙ power_choices c.args.results.now ds in
    subst (λ l. Tells c.listed.result (bounded c.args.at (set l)))
    (ap (λ ts. values_in (map (fun ds) ts)) rows ∙ sym (functions_listed ds (repeated ds s) (repeated_spaces ds s (is_space s c.requires.results))))
    c.listed.ensures
