-- Proves what is asked of `with_members`.
use Rattle.std.proofs.Common.{◌∙◌, sym, ap, map}
use Rattle.std.specs.Option.{option_copied}
use Rattle.tla_value.specs.Value.{values_in}
use Rattle.tla_value.specs.Sets.{fronted}
use Rattle.space_forms.specs.Spaces.{fronted_by}
use Rattle.space_forms.proofs.SpaceLaws.{fronted_values}
use Rattle.space_forms.proofs.record_sets.with_members.Goals as goal

pub returns-in_ok-longer-in-Some : goal.returns-in_ok-longer-in-Some
returns-in_ok-longer-in-Some c =
    ap (map values_in) c.in_ok-longer-in-Some.ensures ∙ fronted_values c.members_in.result.now c.as_slice.result.now ∙ (λ i. fronted (c.members_in.ensures.members i) (map values_in (c.as_slice.ensures.value i))) ∙
    ap (λ o. fronted_by (option_copied o) (map values_in c.args.rows.items)) (sym c.in-Some.is)
