-- What is kept: with what is left to be looked at, all of the whole.
use Rattle.std.proofs.Common.{◌≡◌, ◌++◌, List, drop}
use Rattle.std.specs.List.{flat_map}
use Rattle.pcal_tree.specs.declared.algorithm.Macro.{Macro}
use Rattle.pcal_tree.specs.InMemory.{macro_at}
use Rattle.pcal_tree.specs.OffencesLabels.{of_macro}
use Rattle.pcal_tree.specs.laws.MacroSummaries.{Summary}
use Rattle.label_steps.specs.KnownIn.{AreMacros}
use Rattle.label_rules.proofs.all.add_macros.Given as goal

abbrev pub invariant-loop-one : goal.invariant-loop-one
invariant-loop-one l =
    (ms : List Summary) → AreMacros l.place.around.known ms
    → l.found.items ++ flat_map (λ (d : Macro). of_macro (macro_at l.pool d)) (drop l.one-index l.list) ≡ l.fn.found.items ++ flat_map (λ (d : Macro). of_macro (macro_at l.pool d)) l.list
