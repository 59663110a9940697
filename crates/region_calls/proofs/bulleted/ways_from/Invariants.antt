-- What the loop keeps: the forms so far, and the pool that grows.
use Rattle.std.proofs.Common.{◌≤◌, ◌-◌, length}
use Rattle.tla_tree.specs.declared.op.Op.TheVariants as op
use Rattle.tla_tree.specs.Pool.{Keeps}
use Rattle.region_reading.specs.CallReader.{way_in}
use Rattle.region_items.specs.Begins.{bound}
use Rattle.region_calls.specs.Told.{IsWay}
use Rattle.region_calls.proofs.ReadBullets.{SoFar}
use Rattle.region_calls.proofs.bulleted.ways_from.Given as goal

abbrev pub invariant-loop-list : goal.invariant-loop-list
invariant-loop-list l =
    record {
      row : SoFar IsWay op.Or (way_in (bound l.s.left)) l.col l.pool l.tokens l.s.at l.at l.list.items;
      kept : Keeps l.fn.pool l.pool;
      inside : l.at ≤ length l.tokens.items.items;
      further : l.s.at ≤ l.at;
    }

abbrev pub decreases-loop-list : goal.decreases-loop-list
decreases-loop-list l = length l.tokens.items.items - l.at
