-- The segments so far, and those of the bytes that are left, are those from where the walk began.
use Rattle.std.proofs.Common.{◌≡◌, ◌++◌, ◌-◌, length, drop}
use Rattle.std.specs.Prelude.{All}
use Rattle.module_tree.specs.Walk.{walk_from}
use Rattle.module_split.specs.StandsSeen.{stands_seen, IsSolid}
use Rattle.module_split.specs.Walking.{state_of, IsAt}
use Rattle.module_split.proofs.walk.walk_on.Given as goal

abbrev pub invariant-segments : goal.invariant-segments
invariant-segments l = record {
  at : IsAt l.text l.walker;
  walked : stands_seen l.text l.stands.items ++ walk_from (state_of l.walker) 0 (drop l.walker.at l.text) ≡ walk_from (state_of l.fn.from) 0 (drop l.fn.from.at l.text);
  solid : All (IsSolid l.text) l.stands.items;
}

abbrev pub decreases-segments : goal.decreases-segments
decreases-segments l = length l.text - l.walker.at
