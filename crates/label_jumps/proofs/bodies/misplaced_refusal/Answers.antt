-- Proves that the first of what is misplaced is found.
use Rattle.std.proofs.Common.{true, false, List, map, ap, ◌∙◌}
use Rattle.std.specs.List.{flat_map}
use Rattle.std.proofs.lemmas.Result.{IfOk-weaker}
use Rattle.pcal_tree.specs.declared.algorithm.Macro.{Macro}
use Rattle.pcal_tree.specs.declared.algorithm.Procedure.{Procedure}
use Rattle.pcal_tree.specs.Algorithm as tree
use Rattle.pcal_tree.specs.InMemory.{macro_at, procedure_at}
use Rattle.pcal_tree.specs.Offences.{first}
use Rattle.pcal_tree.specs.OffencesLabels.{misplaced}
use Rattle.algorithm_answer.specs.Joined.{joined}
use Rattle.label_jumps.proofs.JumpLaws.{whole_found}
use Rattle.label_jumps.proofs.bodies.misplaced_refusal.Goals as goal

pub returns : goal.returns
returns c =
    IfOk-weaker c.with_main.result _ _ (λ r h ts.
    whole_found ts c.args.algorithm.now c.in_ok-macros.macros c.in_ok-procedures.procedures r
    (c.in_ok-macros.ensures ts ∙ ap (λ (ms : List Macro). first (flat_map (λ (d : tree.Macro). misplaced true false d.body) (map (macro_at ts) ms))) c.deref.ensures.value)
    (c.in_ok-procedures.ensures ts ∙ ap (λ (ps : List Procedure). joined c.in_ok-macros.macros (first (flat_map (λ (q : tree.Procedure). misplaced false true q.body) (map (procedure_at ts) ps)))) c.deref-2.ensures.value)
    (h ts))
    c.with_main.ensures
