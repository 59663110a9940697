-- What is kept: the left sides from the last one on that were passed.
use Rattle.std.proofs.Common.{◌-◌, [], length, map, drop}
use Rattle.pcal_tree.specs.InMemory.{assignments_at}
use Rattle.pcal_tree.specs.laws.MacroSummaries.{sides, pairs_of}
use Rattle.pcal_tree.proofs.SetLaws.{Same}
use Rattle.label_steps.specs.GatheredIn.{Adds}
use Rattle.label_steps.specs.PutIn.{side_of}
use Rattle.label_steps.proofs.gathered.Gathered.sides.Given as goal

abbrev pub invariant-loop-i : goal.invariant-loop-i
invariant-loop-i l = record {
  adds : Adds l.known l.fn.self l.self [] (pairs_of (sides (assignments_at l.pool (drop (length l.list - l.i) l.list))));
  met : Same (map side_of l.met.keys) (sides (assignments_at l.pool (drop (length l.list - l.i) l.list)));
}
