-- What the loop keeps: of all processes some were placed, and the rest are left.
use Rattle.std.proofs.Common.{List, map, drop}
use Rattle.tla_tree.specs.Tree.{Tree}
use Rattle.step_moves.specs.InMemory.{named_at}
use Rattle.step_moves.proofs.EntryLaws.{Placing}
use Rattle.step_moves.proofs.apart.apart.Given as goal

abbrev pub invariant-loop-one : goal.invariant-loop-one
invariant-loop-one l = (ts : List Tree) → Placing ts (map (named_at ts) l.all) (map (named_at ts) (drop l.one-index l.all)) l.known.entries
