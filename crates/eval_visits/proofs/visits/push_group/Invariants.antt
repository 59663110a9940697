-- What the loop of `push_group` keeps.
use Rattle.std.proofs.Common.{◌≡◌, ◌++◌, take}
use Rattle.tla_value.specs.Value.{values_in}
use Rattle.eval_visits.specs.Visits.{over_group}
use Rattle.eval_visits.proofs.visits.push_group.Given as goal

abbrev pub invariant-loop-x : goal.invariant-loop-x
invariant-loop-x l = l.names.items ≡ l.fn.names.items ++ over_group (take l.x-index l.group) (values_in l.members)
