-- What the loop keeps: the settings so far, and the pool that grows.
use Rattle.std.proofs.Common.{◌≤◌, ◌-◌, length, Some}
use Rattle.tla_pool.specs.FormOf.{slots_of}
use Rattle.tla_tree.specs.Pool.{Keeps}
use Rattle.tla_tree.specs.Whole.{whole_in}
use Rattle.expr_nodes.specs.Ahead.{ahead}
use Rattle.expr_lists.proofs.ReadSettings.{SettingsSoFar, MayHavePaths}
use Rattle.expr_lists.proofs.read_setting.settings.Given as goal

abbrev pub invariant-loop-all : goal.invariant-loop-all
invariant-loop-all g l =
    record {
      settings : SettingsSoFar l.s.linked l.tokens l.pool l.s.left l.s.edge l.place l.at (slots_of l.all.slots.items) l.all.ids.items l.all.nesting ((whole_in l.s.linked (Some l.s.left)).settings l.s.edge (ahead l.tokens l.s.at));
      kept : Keeps l.fn.pool l.pool;
      paths : MayHavePaths (slots_of l.all.slots.items);
      small : l.all.nesting ≤ l.s.left;
      inside : l.at ≤ length l.tokens.items.items;
      further : l.s.at ≤ l.at;
    }

abbrev pub decreases-loop-all : goal.decreases-loop-all
decreases-loop-all g l = length l.tokens.items.items - l.at
