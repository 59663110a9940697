-- What the loop keeps: there is a stack for each process so far.
use Rattle.std.proofs.Common.{◌≡◌, List, map, take}
use Rattle.tla_tree.specs.Tree.{Tree}
use Rattle.pcal_tree.specs.InitialStates.{empty_stack}
use Rattle.pcal_tree.specs.Program.{Actor}
use Rattle.step_moves.specs.InMemory.{actor_at}
use Rattle.step_meaning.proofs.ready.stacks.Given as goal

abbrev pub invariant-loop-one : goal.invariant-loop-one
invariant-loop-one l = (ts : List Tree) → l.all.items ≡ map (λ (v : Actor). empty_stack) (map (actor_at ts) (take l._one-index l.actors))
