-- What the loop of `enter` keeps: the parts so far are to be visited behind what was there when it began.
use Rattle.std.proofs.Common.{◌≡◌, ◌++◌, take}
use Rattle.tla_pool.specs.Visits.{to_parts}
use Rattle.tla_pool.proofs.graft.enter.Given as goal

abbrev pub invariant-loop-part : goal.invariant-loop-part
invariant-loop-part l = l.ahead.items ≡ l.initial.ahead.items ++ to_parts (take l.part-index l.part-items)
