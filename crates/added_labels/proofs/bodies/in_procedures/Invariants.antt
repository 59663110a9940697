-- What is kept: those that were passed have their labels.
use Rattle.std.proofs.Common.{◌≡◌, ◌≤◌, false, List, length, take, map}
use Rattle.tla_tree.specs.Nesting.{greatest}
use Rattle.pcal_tree.specs.InMemory.{procedure_at, past_procedure}
use Rattle.pcal_tree.specs.laws.MacroSummaries.{Summary, summary_effect}
use Rattle.label_steps.specs.KnownIn.{AreMacros}
use Rattle.added_labels.specs.Bodies.{procedure_with, past_procedure as names_past_procedure}
use Rattle.added_labels.specs.WithLabels.{EachWith}
use Rattle.added_labels.proofs.bodies.in_procedures.Given as goal

abbrev pub invariant-loop-one : goal.invariant-loop-one
invariant-loop-one l = record {
  loud : l.place.silent ≡ false;
  known : l.place.around.known ≡ l.fn.place.around.known;
  with : (ms : List Summary) → AreMacros l.fn.place.around.known ms → EachWith (procedure_at l.pool) (procedure_with (summary_effect ms)) (names_past_procedure (summary_effect ms)) l.fn.plan l.plan (take (length l.yielded) l.fn.list.items) l.out.items;
  numbers : greatest (map past_procedure l.out.items) ≤ greatest (map past_procedure (take (length l.yielded) l.fn.list.items));
}
