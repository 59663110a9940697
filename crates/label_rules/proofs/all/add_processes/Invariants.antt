-- What is kept: with what is left to be looked at, all of the whole.
use Rattle.std.proofs.Common.{◌≡◌, ◌++◌, false, List, drop}
use Rattle.std.specs.List.{flat_map}
use Rattle.pcal_tree.specs.declared.algorithm.Process.{Process}
use Rattle.pcal_tree.specs.InMemory.{statements_at}
use Rattle.pcal_tree.specs.OffencesLabels.{misplaced}
use Rattle.pcal_tree.specs.OffencesSteps.{missing_in_body}
use Rattle.pcal_tree.specs.laws.MacroSummaries.{Summary}
use Rattle.label_steps.specs.AroundIn.{effects_around}
use Rattle.label_steps.specs.KnownIn.{AreMacros}
use Rattle.label_rules.proofs.all.add_processes.Given as goal

abbrev pub invariant-loop-one : goal.invariant-loop-one
invariant-loop-one l =
    (ms : List Summary) → AreMacros l.place.around.known ms
    → l.found.items ++ flat_map (λ (d : Process). missing_in_body (effects_around l.place.around ms) (statements_at l.pool d.body.items) ++ misplaced false false (statements_at l.pool d.body.items)) (drop l.one-index l.list)
    ≡ l.fn.found.items ++ flat_map (λ (d : Process). missing_in_body (effects_around l.place.around ms) (statements_at l.pool d.body.items) ++ misplaced false false (statements_at l.pool d.body.items)) l.list
