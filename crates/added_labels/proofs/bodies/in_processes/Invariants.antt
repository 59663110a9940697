-- What is kept: those that were passed have their labels.
use Rattle.std.proofs.Common.{◌≤◌, List, length, take, map}
use Rattle.tla_tree.specs.Nesting.{greatest}
use Rattle.pcal_tree.specs.InMemory.{process_at, past_process}
use Rattle.pcal_tree.specs.laws.MacroSummaries.{Summary, summary_effect}
use Rattle.label_steps.specs.KnownIn.{AreMacros}
use Rattle.added_labels.specs.Bodies.{process_with, past_process as names_past_process}
use Rattle.added_labels.specs.WithLabels.{EachWith}
use Rattle.added_labels.proofs.bodies.in_processes.Given as goal

abbrev pub invariant-loop-one : goal.invariant-loop-one
invariant-loop-one l = record {
  with : (ms : List Summary) → AreMacros l.fn.place.around.known ms → EachWith (process_at l.pool) (process_with (summary_effect ms)) (names_past_process (summary_effect ms)) l.fn.plan l.plan (take (length l.yielded) l.fn.list.items) l.out.items;
  numbers : greatest (map past_process l.out.items) ≤ greatest (map past_process (take (length l.yielded) l.fn.list.items));
}
