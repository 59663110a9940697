-- Proves what is asked of `as_set`.
use Rattle.std.proofs.Common.{◌∙◌, sym, subst, arith}
use Rattle.tla_value.specs.Value.{set, values_in}
use Rattle.tla_value.specs.ValueOf.{IsStored}
use Rattle.tla_value.proofs.ValueLists.{count-values_in}
use Rattle.value_forms.proofs.PartLaws.{set_stored}
use Rattle.space_forms.proofs.subsets.as_set.Goals as goal

pub invariant_of-result : goal.invariant_of-result
invariant_of-result c =
    let row = c.args.row.now in
    subst (λ l. IsStored (set (values_in l))) (sym (c.in_ok-items.ensures ∙ c.as_slice.ensures.value ∙ c.row.view_is))
    (set_stored (values_in row) c.requires.0 c.requires.1 (omega (arith, count-values_in row, c.requires.2)))
