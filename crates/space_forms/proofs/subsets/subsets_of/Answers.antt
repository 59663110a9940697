-- Proves what is asked of `subsets_of`.
use Rattle.std.proofs.Common.{◌∙◌, sym, ap, subst, arith, map, length}
use Rattle.tla_value.specs.Value.{set, values_in}
use Rattle.tla_value.specs.Order.{set_from}
use Rattle.tla_value.specs.Limits.{bounded}
use Rattle.tla_value.specs.Sets.{subsets}
use Rattle.tla_value.proofs.ValueLists.{count-values_in}
use Rattle.value_forms.specs.Gives.{Tells}
use Rattle.value_forms.proofs.PartLaws.{set_over, set_parts}
use Rattle.space_forms.specs.SubLists.{sub_lists, row_set, AreSetRows}
use Rattle.space_forms.proofs.SubListLaws.{rows_more, sub_are_sets, sub_sets}
use Rattle.space_forms.proofs.SubsetCount.{subsets_many}
use Rattle.space_forms.proofs.subsets.subsets_of.Goals as goal

pub returns-then-members-gt16 : goal.returns-then-members-gt16
returns-then-members-gt16 c =
    let vs = values_in c.args.members.now in
    set_over c.args.at (subsets vs) (subsets_many vs c.requires.0.0 (omega (arith, count-values_in c.args.members.now, c.if-members-gt16.true)))

pub sets_of-requires : goal.sets_of-requires
sets_of-requires c =
    let vs = c.args.members.now in
    subst (AreSetRows 65536) (sym (c.as_slice.ensures.value ∙ c.in_ok-rows.ensures))
    (rows_more (length vs) 65536 (sub_lists vs) (omega (arith, c.if-members-gt16.false)) (sub_are_sets vs c.requires.0.0 (set_parts (values_in vs) c.requires)))

pub returns : goal.returns
returns c =
    subst (λ l. Tells c.set.result (bounded c.args.at (set (set_from l))))
    (c.in_ok-all.ensures ∙ ap (map row_set) (c.as_slice.ensures.value ∙ c.in_ok-rows.ensures) ∙ sub_sets c.args.members.now)
    c.set.ensures
