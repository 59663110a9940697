-- What the loop keeps: the one that is found from here on is the one that is found among all.
use Rattle.std.proofs.Common.{List}
use Rattle.tla_tree.specs.Tree.{Tree}
use Rattle.followed_runs.proofs.ActorLaws.{FoundFrom}
use Rattle.followed_runs.proofs.taking.actor_of.Given as goal

abbrev pub invariant-loop-actor : goal.invariant-loop-actor
invariant-loop-actor l = (ts : List Tree) → FoundFrom ts l.who l.actors l.actor-index
