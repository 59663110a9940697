-- What is kept: with what is left to be looked at, the first of the whole.
use Rattle.std.proofs.Common.{◌≡◌, None, Some, [], List, drop}
use Rattle.std.specs.List.{flat_map}
use Rattle.pcal_tree.specs.declared.algorithm.Procedure.{Procedure}
use Rattle.pcal_tree.specs.InMemory.{statements_at, procedure_at}
use Rattle.pcal_tree.specs.Offences.{first}
use Rattle.pcal_tree.specs.OffencesSteps.{procedure_effects}
use Rattle.pcal_tree.specs.laws.MacroSummaries.{Summary, summary_effect}
use Rattle.algorithm_answer.specs.Joined.{joined}
use Rattle.label_steps.specs.KnownIn.{AreMacros}
use Rattle.label_steps.specs.StraightPaths.{straight_twice}
use Rattle.label_steps.proofs.twice.with_procedures.Given as goal

abbrev pub invariant-loop-i : goal.invariant-loop-i
invariant-loop-i l = record {
  known : l.around.known ≡ l.fn.around.known;
  first : (ms : List Summary) → AreMacros l.fn.around.known ms
      → joined l.so_far (first (flat_map (λ (d : Procedure). straight_twice (procedure_effects (summary_effect ms) (procedure_at l.pool d)) (Some []) (statements_at l.pool d.body.items)) (drop l.i l.list)))
      ≡ joined None (first (flat_map (λ (d : Procedure). straight_twice (procedure_effects (summary_effect ms) (procedure_at l.pool d)) (Some []) (statements_at l.pool d.body.items)) l.list));
}
