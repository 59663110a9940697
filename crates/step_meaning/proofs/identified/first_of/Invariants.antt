-- What the loop keeps: none was there so far.
use Rattle.std.proofs.Common.{◌≡◌, List, map, drop}
use Rattle.tla_tree.specs.Tree.{Tree}
use Rattle.step_moves.specs.InMemory.{actor_at}
use Rattle.step_meaning.specs.Identified.{those}
use Rattle.step_meaning.proofs.identified.first_of.Given as goal

abbrev pub invariant-loop-actor : goal.invariant-loop-actor
invariant-loop-actor l = (ts : List Tree) → those l.whose (map (actor_at ts) (drop l.actor-index l.actors)) ≡ those l.whose (map (actor_at ts) l.actors)
