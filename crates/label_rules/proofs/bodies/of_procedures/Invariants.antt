-- What is kept: with what is left to be looked at, all of the whole.
use Rattle.std.proofs.Common.{◌≡◌, ◌++◌, true, false, List, drop}
use Rattle.std.specs.List.{flat_map}
use Rattle.tla_tree.specs.Tree.{Tree}
use Rattle.pcal_tree.specs.declared.algorithm.Procedure.{Procedure}
use Rattle.pcal_tree.specs.InMemory.{statements_at}
use Rattle.pcal_tree.specs.OffencesLabels.{misplaced}
use Rattle.label_rules.proofs.bodies.of_procedures.Given as goal

abbrev pub invariant-loop-one : goal.invariant-loop-one
invariant-loop-one l =
    (ts : List Tree)
    → l.found.items ++ flat_map (λ (d : Procedure). misplaced false true (statements_at ts d.body.items)) (drop l.one-index l.list)
    ≡ l.fn.found.items ++ flat_map (λ (d : Procedure). misplaced false true (statements_at ts d.body.items)) l.list
