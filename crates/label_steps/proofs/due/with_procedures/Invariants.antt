-- What is kept: with what is left to be looked at, the first of the whole.
use Rattle.std.proofs.Common.{◌≡◌, List, drop}
use Rattle.std.specs.List.{flat_map}
use Rattle.tla_tree.specs.Tree.{Tree}
use Rattle.pcal_tree.specs.declared.algorithm.Procedure.{Procedure}
use Rattle.pcal_tree.specs.InMemory.{statements_at}
use Rattle.pcal_tree.specs.Offences.{first}
use Rattle.algorithm_answer.specs.Joined.{joined}
use Rattle.label_steps.specs.MissingLabels.{due_in_body}
use Rattle.label_steps.proofs.due.with_procedures.Given as goal

abbrev pub invariant-loop-one : goal.invariant-loop-one
invariant-loop-one l =
    (ts : List Tree)
    → joined l.so_far (first (flat_map (λ (d : Procedure). due_in_body (statements_at ts d.body.items)) (drop l.one-index l.list)))
    ≡ joined l.fn.found (first (flat_map (λ (d : Procedure). due_in_body (statements_at ts d.body.items)) l.list))
