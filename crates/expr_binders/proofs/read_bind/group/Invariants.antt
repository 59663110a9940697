-- What the loop keeps: the names so far, reading being behind the last of them.
use Rattle.std.proofs.Common.{◌≤◌, ◌-◌, length, Some}
use Rattle.tla_token.specs.TokensSeen.{span_bytes}
use Rattle.tla_tree.specs.Whole.{whole_in}
use Rattle.expr_nodes.specs.Ahead.{ahead}
use Rattle.expr_binders.proofs.ReadBinds.{NamesSoFar}
use Rattle.expr_binders.proofs.read_bind.group.Given as goal

abbrev pub invariant-loop-from : goal.invariant-loop-from
invariant-loop-from g l =
    record {
      names : NamesSoFar l.s.linked l.tokens l.s.left l.s.edge l.at l.names.items ((whole_in l.s.linked (Some l.s.left)).binds l.s.edge l.fn.first.place (span_bytes l.tokens.bytes.items l.fn.first.span) (ahead l.tokens l.s.at));
      inside : l.at ≤ length l.tokens.items.items;
      further : l.s.at ≤ l.at;
    }

abbrev pub decreases-loop-from : goal.decreases-loop-from
decreases-loop-from g l = length l.tokens.items.items - l.at
