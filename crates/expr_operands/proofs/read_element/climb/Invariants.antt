-- What the loop keeps: the set so far goes on where reading is, beside its element.
use Rattle.std.proofs.Common.{◌≤◌, ◌+◌, ◌-◌, length, Some}
use Rattle.tla_token.specs.declared.place.Place.{Place}
use Rattle.tla_tree.specs.Tree.{Word}
use Rattle.tla_tree.specs.Pool.{Keeps}
use Rattle.tla_tree.specs.Spelling.{Phrase}
use Rattle.tla_tree.specs.Reader.{behind}
use Rattle.tla_tree.specs.Whole.{whole_in}
use Rattle.expr_nodes.specs.Ahead.{ahead}
use Rattle.expr_operands.specs.ShortForms.{IsParted, SomeParted, PartsTo}
use Rattle.expr_operands.proofs.read_element.climb.Given as goal

abbrev pub invariant-loop-b : goal.invariant-loop-b
invariant-loop-b g l =
    record {
      read : (i : Phrase) (p q : Place) (x : Word) → IsParted l.s.linked l.fn.pool p x q l.name l.fn.a i → PartsTo l.s.linked l.tokens l.pool p x q l.name l.so_far l.at (λ j. (whole_in l.s.linked (Some l.s.left)).climb l.s.edge (behind p x q) j) ((whole_in l.s.linked (Some l.s.left)).climb l.s.edge (behind p x q) i (ahead l.tokens l.s.at));
      some : SomeParted l.s.linked l.pool l.name l.so_far;
      kept : Keeps l.fn.pool l.pool;
      small : l.so_far.set.shape.nesting ≤ l.s.left + l.s.left + l.s.left + 1;
      inside : l.at ≤ length l.tokens.items.items;
      further : l.s.at ≤ l.at;
    }

abbrev pub decreases-loop-b : goal.decreases-loop-b
decreases-loop-b g l = l.s.left + l.s.left + 1 - l.so_far.set.shape.chain
