-- What the loop keeps: the fields so far, and the pool that grows.
use Rattle.std.proofs.Common.{◌≤◌, ◌-◌, length, Some}
use Rattle.tla_tree.specs.Pool.{Keeps}
use Rattle.tla_tree.specs.Whole.{whole_in}
use Rattle.expr_nodes.specs.Ahead.{ahead}
use Rattle.expr_nodes.specs.ReadIn.{field_seen}
use Rattle.expr_nodes.specs.ViewSeen.{mark_seen}
use Rattle.expr_lists.proofs.ReadFields.{FieldsSoFar}
use Rattle.expr_lists.proofs.read_field.fields.Given as goal

abbrev pub invariant-loop-all : goal.invariant-loop-all
invariant-loop-all g l =
    record {
      fields : FieldsSoFar l.s.linked l.tokens l.pool l.s.left l.s.edge (mark_seen l.mark) l.at l.all.labels l.all.ids.items l.all.nesting (field_seen l.tokens.bytes.items l.field)
          ((whole_in l.s.linked (Some l.s.left)).fields l.s.edge (mark_seen l.mark) (field_seen l.tokens.bytes.items l.fn.first) (ahead l.tokens l.s.at));
      kept : Keeps l.fn.pool l.pool;
      small : l.all.nesting ≤ l.s.left;
      inside : l.at ≤ length l.tokens.items.items;
      further : l.s.at ≤ l.at;
    }

abbrev pub decreases-loop-all : goal.decreases-loop-all
decreases-loop-all g l = length l.tokens.items.items - l.at
