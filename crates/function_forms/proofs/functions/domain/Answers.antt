-- Proves what is asked of `domain`.
use Rattle.std.proofs.Common.{sym, ap, subst}
use Rattle.tla_value.specs.Value.{values_in}
use Rattle.value_forms.specs.Parts.{AreParts}
use Rattle.value_forms.proofs.PartLaws.{fun_parts}
use Rattle.function_forms.proofs.functions.domain.Goals as goal

pub set_in_order-requires-clause-parts : goal.set_in_order-requires-clause-parts
set_in_order-requires-clause-parts c =
    subst AreParts (ap values_in (sym c.in_ok-members.ensures)) (fun_parts (values_in c.in_ok-domain.domain.now) (values_in c.in_ok-domain._values.now) c.in_ok-domain.ensures.stored).0
