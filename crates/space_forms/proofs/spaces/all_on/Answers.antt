-- Proves what is asked of `all_on`.
use Rattle.std.proofs.Common.{arith}
use Rattle.tla_value.specs.Value.{values_in}
use Rattle.value_forms.proofs.PartLaws.{set_parts, set_count, fun_stored}
use Rattle.space_forms.proofs.SpaceLaws.{row_at}
use Rattle.space_forms.specs.Spaces.{IsRow}
use Rattle.tla_value.specs.Order.{count}
use Rattle.space_forms.proofs.spaces.all_on.Goals as goal

pub on_domain-requires : goal.on_domain-requires
on_domain-requires c =
    let ds = values_in c.args.domain.now in
    let row = values_in c.row-item.result in
    let is : IsRow (count ds) row = row_at (count ds) c.args.rows.now c.loop-row.row-index c.row-item.result c.loop-row-test.true c.row-item.is c.requires.rows in
    fun_stored ds row c.requires.domain.0.0 (set_parts ds c.requires.domain) is.0 (omega (arith, is.1)) (set_count ds c.requires.domain)
