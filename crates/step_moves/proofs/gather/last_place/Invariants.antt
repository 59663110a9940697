-- What the loop keeps: the last place of the rest, or else the place so far, is that of all.
use Rattle.std.proofs.Common.{◌≡◌, List, map, drop}
use Rattle.tla_tree.specs.Tree.{Tree}
use Rattle.pcal_tree.specs.InMemory.{process_at}
use Rattle.pcal_tree.specs.Processes.{last_place}
use Rattle.step_moves.proofs.gather.last_place.Given as goal

abbrev pub invariant-loop-process : goal.invariant-loop-process
invariant-loop-process l = (ts : List Tree) → last_place l.last (map (process_at ts) (drop l.process-index l.list)) ≡ last_place l.fn.at (map (process_at ts) l.list)
