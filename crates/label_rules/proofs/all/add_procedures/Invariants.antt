-- What is kept: with what is left to be looked at, all of the whole.
use Rattle.std.proofs.Common.{◌≡◌, ◌++◌, false, List, drop}
use Rattle.std.specs.List.{flat_map}
use Rattle.pcal_tree.specs.declared.algorithm.Procedure.{Procedure}
use Rattle.pcal_tree.specs.InMemory.{procedure_at}
use Rattle.pcal_tree.specs.OffencesLabels.{of_procedure}
use Rattle.pcal_tree.specs.laws.MacroSummaries.{Summary, summary_effect}
use Rattle.label_steps.specs.KnownIn.{AreMacros}
use Rattle.label_rules.proofs.all.add_procedures.Given as goal

abbrev pub invariant-loop-one : goal.invariant-loop-one
invariant-loop-one l = record {
  loud : l.place.silent ≡ false;
  known : l.place.around.known ≡ l.fn.place.around.known;
  told : (ms : List Summary) → AreMacros l.fn.place.around.known ms
      → l.found.items ++ flat_map (λ (d : Procedure). of_procedure (summary_effect ms) (procedure_at l.pool d)) (drop l.one-index l.list)
      ≡ l.fn.found.items ++ flat_map (λ (d : Procedure). of_procedure (summary_effect ms) (procedure_at l.pool d)) l.list;
}
