-- What is kept: the pairs with the names that were passed are there too.
use Rattle.std.proofs.Common.{[], map, take}
use Rattle.std.specs.List.{flat_map}
use Rattle.pcal_tree.specs.laws.MacroSummaries.{in_turn}
use Rattle.label_steps.specs.GatheredIn.{Adds}
use Rattle.label_steps.proofs.gathered.Gathered.all_turns.Given as goal

abbrev pub invariant-loop-one : goal.invariant-loop-one
invariant-loop-one l = Adds l.known l.fn.self l.self [] (flat_map (λ y. map (λ x. in_turn x y) l.before) (take l.one-index l.names))
