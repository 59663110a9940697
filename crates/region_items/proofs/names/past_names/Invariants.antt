-- What the loop keeps: the names so far.
use Rattle.std.proofs.Common.{◌≤◌, ◌-◌, length}
use Rattle.expr_nodes.specs.Ahead.{ahead}
use Rattle.region_items.proofs.NamesGathered.{NamesSoFar}
use Rattle.region_items.proofs.names.past_names.Given as goal

abbrev pub invariant-loop-names : goal.invariant-loop-names
invariant-loop-names l =
    record {
      so_far : NamesSoFar l.s.edge (ahead l.tokens l.s.at) (ahead l.tokens l.at) l.names;
      inside : l.at ≤ length l.tokens.items.items;
      further : l.s.at ≤ l.at;
    }

abbrev pub decreases-loop-names : goal.decreases-loop-names
decreases-loop-names l = length l.tokens.items.items - l.at
