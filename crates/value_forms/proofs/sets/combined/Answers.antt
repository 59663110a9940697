-- Proves what is asked of `combined`.
use Rattle.std.proofs.Common.{sym, subst}
use Rattle.tla_value.specs.Value.{values_in}
use Rattle.tla_value.specs.Order.{IsAscending}
use Rattle.value_forms.specs.Parts.{AreParts}
use Rattle.value_forms.proofs.MergeLaws.{merged_ascending, merged_parts}
use Rattle.value_forms.proofs.sets.combined.Goals as goal

pub set_in_order-requires-clause-ascending : goal.set_in_order-requires-clause-ascending
set_in_order-requires-clause-ascending c =
    subst IsAscending (sym c.in_ok-all.ensures) (merged_ascending c.args.m (values_in c.in_ok-ss.ss.now) (values_in c.in_ok-ts.ts.now) c.in_ok-ss.ensures.stored c.in_ok-ts.ensures.stored)

pub set_in_order-requires-clause-parts : goal.set_in_order-requires-clause-parts
set_in_order-requires-clause-parts c =
    subst AreParts (sym c.in_ok-all.ensures) (merged_parts c.args.m (values_in c.in_ok-ss.ss.now) (values_in c.in_ok-ts.ts.now) c.in_ok-ss.ensures.stored c.in_ok-ts.ensures.stored)
