-- What is kept: the pairs with the left sides that were passed are there too.
use Rattle.std.proofs.Common.{[], ◌∷◌, take}
use Rattle.std.specs.List.{flat_map}
use Rattle.pcal_tree.specs.laws.MacroSummaries.{at_once}
use Rattle.label_steps.specs.GatheredIn.{Adds}
use Rattle.label_steps.specs.PutIn.{side_of}
use Rattle.label_steps.proofs.gathered.Gathered.before_sides.Given as goal

abbrev pub invariant-loop-one : goal.invariant-loop-one
invariant-loop-one l = Adds l.known l.fn.self l.self [] (flat_map (λ s. at_once (side_of l.side) (side_of s) ∷ []) (take l.one-index l.sides))
