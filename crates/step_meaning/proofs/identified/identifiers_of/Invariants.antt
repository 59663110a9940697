-- What the loop keeps: what is there, with the identifiers that are left, is the whole.
use Rattle.std.proofs.Common.{◌≡◌, ◌++◌, List, Some, map, drop}
use Rattle.tla_tree.specs.Tree.{Tree}
use Rattle.step_moves.specs.InMemory.{actor_at}
use Rattle.step_meaning.specs.Identified.{those, selves}
use Rattle.step_meaning.proofs.identified.identifiers_of.Given as goal

abbrev pub invariant-loop-actor : goal.invariant-loop-actor
invariant-loop-actor l =
    (ts : List Tree) → map Some l.all.items ++ selves (those l.whose (map (actor_at ts) (drop l.actor-index l.actors))) ≡ selves (those l.whose (map (actor_at ts) l.actors))
