-- What is kept: those that were passed have their labels.
use Rattle.std.proofs.Common.{◌≤◌, length, take, map}
use Rattle.tla_tree.specs.Nesting.{greatest}
use Rattle.pcal_tree.specs.InMemory.{macro_at, past_macro}
use Rattle.added_labels.specs.Bodies.{macro_with, past_macro as names_past_macro}
use Rattle.added_labels.specs.WithLabels.{EachWith}
use Rattle.added_labels.proofs.bodies.in_macros.Given as goal

abbrev pub invariant-loop-one : goal.invariant-loop-one
invariant-loop-one l = record {
  with : EachWith (macro_at l.pool) macro_with names_past_macro l.fn.plan l.plan (take (length l.yielded) l.fn.list.items) l.out.items;
  numbers : greatest (map past_macro l.out.items) ≤ greatest (map past_macro (take (length l.yielded) l.fn.list.items));
}
