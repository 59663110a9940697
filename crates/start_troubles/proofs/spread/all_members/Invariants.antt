-- What the loop keeps: the values so far are members, so all are where the rest is.
use Rattle.tla_value.specs.Value.{values_in}
use Rattle.start_troubles.proofs.MemberLaws.{HoldsFrom}
use Rattle.start_troubles.proofs.spread.all_members.Given as goal

abbrev pub invariant-loop-v : goal.invariant-loop-v
invariant-loop-v l = HoldsFrom l.values (values_in l.members) l.v-index
