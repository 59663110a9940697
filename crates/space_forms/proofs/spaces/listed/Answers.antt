-- Proves what is asked of `listed`.
use Rattle.std.proofs.Common.{◌∙◌, sym, subst, map}
use Rattle.tla_value.specs.Value.{set, values_in}
use Rattle.tla_value.specs.Order.{IsAscending}
use Rattle.tla_value.specs.Limits.{bounded}
use Rattle.value_forms.specs.Gives.{Tells}
use Rattle.space_forms.proofs.SpaceLaws.{functions_rows, functions_ascend}
use Rattle.space_forms.proofs.spaces.listed.Goals as goal

pub set_ascending-requires : goal.set_ascending-requires
set_ascending-requires c =
    let ds = values_in c.args.domain.now in
    subst (λ l. IsAscending (values_in l)) (sym (c.in_ok-all.ensures ∙ functions_rows ds c.args.rows.now)) (functions_ascend ds (map values_in c.args.rows.now) c.requires.ascending)

pub returns : goal.returns
returns c =
    subst (λ l. Tells c.set_ascending.result (bounded c.args.at (set (values_in l)))) (c.in_ok-all.ensures ∙ functions_rows (values_in c.args.domain.now) c.args.rows.now) c.set_ascending.ensures
