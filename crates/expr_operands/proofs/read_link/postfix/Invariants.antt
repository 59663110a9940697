-- What the loop keeps: the primary so far goes on where reading is.
use Rattle.std.proofs.Common.{◌-◌, length, Some}
use Rattle.tla_tree.specs.Pool.{Keeps}
use Rattle.tla_tree.specs.Spelling.{Phrase}
use Rattle.tla_tree.specs.Whole.{whole_in}
use Rattle.expr_nodes.specs.ReadIn.{IsIn}
use Rattle.expr_nodes.specs.Ahead.{ahead}
use Rattle.expr_rows.specs.HasRead.{GrowsTo, Stands}
use Rattle.expr_operands.proofs.read_link.postfix.Given as goal

abbrev pub invariant-loop-b : goal.invariant-loop-b
invariant-loop-b g l =
    record {
      read : (i : Phrase) → IsIn l.s.linked l.fn.pool l.fn.a i → GrowsTo l.s.linked l.tokens l.pool l.so_far l.at (λ j. (whole_in l.s.linked (Some l.s.left)).postfix l.s.edge j) ((whole_in l.s.linked (Some l.s.left)).postfix l.s.edge i (ahead l.tokens l.s.at));
      kept : Keeps l.fn.pool l.pool;
      stands : Stands l.tokens l.pool l.s.at l.s.left (l.so_far, l.at);
    }

abbrev pub decreases-loop-b : goal.decreases-loop-b
decreases-loop-b g l = length l.tokens.items.items - l.at
