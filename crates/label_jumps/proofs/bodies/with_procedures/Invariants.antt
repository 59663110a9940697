-- What is kept: with what is left to be looked at, the first of the whole.
use Rattle.std.proofs.Common.{◌≡◌, true, false, List, drop}
use Rattle.std.specs.List.{flat_map}
use Rattle.tla_tree.specs.Tree.{Tree}
use Rattle.pcal_tree.specs.declared.algorithm.Procedure.{Procedure}
use Rattle.pcal_tree.specs.InMemory.{statements_at}
use Rattle.pcal_tree.specs.Offences.{first}
use Rattle.pcal_tree.specs.OffencesLabels.{misplaced}
use Rattle.algorithm_answer.specs.Joined.{joined}
use Rattle.label_jumps.proofs.bodies.with_procedures.Given as goal

abbrev pub invariant-loop-one : goal.invariant-loop-one
invariant-loop-one l =
    (ts : List Tree)
    → joined l.so_far (first (flat_map (λ (d : Procedure). misplaced false true (statements_at ts d.body.items)) (drop l.one-index l.list)))
    ≡ joined l.fn.found (first (flat_map (λ (d : Procedure). misplaced false true (statements_at ts d.body.items)) l.list))
