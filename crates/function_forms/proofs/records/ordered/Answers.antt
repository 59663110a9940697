-- Proves what is asked of `ordered`.
use Rattle.tla_value.proofs.SetOf.{sorted_once}
use Rattle.function_forms.proofs.records.ordered.Goals as goal

pub returns : goal.returns
returns c = sorted_once _ _ _ c.in_ok-sort.ensures.permutation c.in_ok-sort.ensures.sorted c.dedup.ensures.filtered
