-- What is kept: with what is left to be looked at, the first of the whole.
use Rattle.std.proofs.Common.{◌≡◌, Some, [], List, drop}
use Rattle.std.specs.List.{flat_map}
use Rattle.pcal_tree.specs.declared.algorithm.Process.{Process}
use Rattle.pcal_tree.specs.InMemory.{statements_at}
use Rattle.pcal_tree.specs.Offences.{first}
use Rattle.pcal_tree.specs.laws.MacroSummaries.{Summary}
use Rattle.algorithm_answer.specs.Joined.{joined}
use Rattle.label_steps.specs.AroundIn.{effects_around}
use Rattle.label_steps.specs.KnownIn.{AreMacros}
use Rattle.label_steps.specs.StraightPaths.{straight_twice}
use Rattle.label_steps.proofs.twice.with_processes.Given as goal

abbrev pub invariant-loop-i : goal.invariant-loop-i
invariant-loop-i l =
    (ms : List Summary) → AreMacros l.around.known ms
    → joined l.so_far (first (flat_map (λ (d : Process). straight_twice (effects_around l.around ms) (Some []) (statements_at l.pool d.body.items)) (drop l.i l.list)))
    ≡ joined l.fn.found (first (flat_map (λ (d : Process). straight_twice (effects_around l.around ms) (Some []) (statements_at l.pool d.body.items)) l.list))
