use Rattle.std.proofs.Common.{◌-◌}
use Rattle.module_split.specs.AlgorithmSeen.{IsInside}
use Rattle.module_split.proofs.AlgorithmSteps.{Follows}
use Rattle.module_split.proofs.algorithm.walk_inside.Given as goal

abbrev pub invariant-parts : goal.invariant-parts
invariant-parts l = record {
  here : IsInside l.text l.end l.inside;
  so_far : Follows l.text l.end l.fn.start l.inside l.initial.marks l.marks;
}

abbrev pub decreases-parts : goal.decreases-parts
decreases-parts l = l.end - l.inside.at
