-- What the loop of `gathered` keeps.
use Rattle.std.proofs.Common.{◌≡◌, drop}
use Rattle.tla_value.specs.Value.{values_in}
use Rattle.tla_value.specs.Sets.{union_of}
use Rattle.value_forms.proofs.UnionLaws.{gather}
use Rattle.value_forms.proofs.unions.gathered.Given as goal

abbrev pub invariant-loop-s : goal.invariant-loop-s
invariant-loop-s l = gather l.at l.all.items (drop l.s-index l.sets) ≡ union_of l.at (values_in l.sets)
