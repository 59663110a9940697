-- What the loop keeps: the conjuncts that came stand in their order.
use Rattle.std.proofs.Common.{length, take}
use Rattle.region_calls.proofs.OrderLaws.{IsSoFar}
use Rattle.region_calls.proofs.order.formulas.Given as goal

abbrev pub invariant-loop-line : goal.invariant-loop-line
invariant-loop-line l = IsSoFar l.others l.formulas.items (take (length l.yielded) l.fn.lines.items)
