-- What is kept: with what is left to be looked at, the first of the whole.
use Rattle.std.proofs.Common.{◌≡◌, false, None, List, drop}
use Rattle.std.specs.List.{flat_map}
use Rattle.tla_tree.specs.Tree.{Tree}
use Rattle.pcal_tree.specs.declared.algorithm.Macro.{Macro}
use Rattle.pcal_tree.specs.InMemory.{statements_at}
use Rattle.pcal_tree.specs.Offences.{first}
use Rattle.algorithm_answer.specs.Joined.{joined}
use Rattle.label_steps.specs.MissingLabels.{due_in}
use Rattle.label_steps.proofs.due.with_macros.Given as goal

abbrev pub invariant-loop-one : goal.invariant-loop-one
invariant-loop-one l =
    (ts : List Tree)
    → joined l.so_far (first (flat_map (λ (d : Macro). due_in false None (statements_at ts d.body.items)) (drop l.one-index l.list)))
    ≡ joined l.fn.found (first (flat_map (λ (d : Macro). due_in false None (statements_at ts d.body.items)) l.list))
