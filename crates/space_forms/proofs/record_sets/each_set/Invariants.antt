-- What the loop of `each_set` keeps.
use Rattle.std.proofs.Common.{drop}
use Rattle.space_forms.proofs.RecordLaws.{Leads}
use Rattle.space_forms.proofs.record_sets.each_set.Given as goal

abbrev pub invariant-loop-v : goal.invariant-loop-v
invariant-loop-v l = Leads l.at l.values (drop l.v-index l.values)
