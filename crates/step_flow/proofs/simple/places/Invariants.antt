-- What is kept: the places so far.
use Rattle.std.proofs.Common.{◌≡◌, take}
use Rattle.tla_tree.specs.Pool.{trees_at}
use Rattle.step_flow.specs.Ends.{root_places}
use Rattle.step_flow.proofs.simple.places.Given as goal

abbrev pub invariant-loop-e : goal.invariant-loop-e
invariant-loop-e l = l.all.items ≡ root_places (trees_at l.pool (take l.e-index l.list))
