-- What the loop keeps: the groups so far, and the pool that grows.
use Rattle.std.proofs.Common.{◌≤◌, ◌-◌, length, Some}
use Rattle.tla_token.specs.TokensSeen.{span_bytes}
use Rattle.tla_pool.specs.FormOf.{groups_of}
use Rattle.tla_tree.specs.Pool.{Keeps}
use Rattle.tla_tree.specs.Whole.{whole_in}
use Rattle.expr_nodes.specs.Ahead.{ahead}
use Rattle.expr_binders.proofs.ReadBinds.{BindsSoFar}
use Rattle.expr_binders.proofs.read_bind.binds.Given as goal

abbrev pub invariant-loop-all : goal.invariant-loop-all
invariant-loop-all g l =
    record {
      groups : BindsSoFar l.s.linked l.tokens l.pool l.s.left l.s.edge l.at (groups_of l.all.groups.items) l.all.sets.items l.all.nesting l.word.place (span_bytes l.tokens.bytes.items l.word.span)
          ((whole_in l.s.linked (Some l.s.left)).binds l.s.edge l.fn.first.place (span_bytes l.tokens.bytes.items l.fn.first.span) (ahead l.tokens l.s.at));
      kept : Keeps l.fn.pool l.pool;
      small : l.all.nesting ≤ l.s.left;
      inside : l.at ≤ length l.tokens.items.items;
      further : l.s.at ≤ l.at;
    }

abbrev pub decreases-loop-all : goal.decreases-loop-all
decreases-loop-all g l = length l.tokens.items.items - l.at
