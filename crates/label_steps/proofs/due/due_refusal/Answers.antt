-- Proves that the first label that is missing is found.
use Rattle.std.proofs.Common.{false, None, List, map, ap, ◌∙◌}
use Rattle.std.specs.List.{flat_map}
use Rattle.pcal_tree.specs.declared.algorithm.Macro.{Macro}
use Rattle.pcal_tree.specs.declared.algorithm.Procedure.{Procedure}
use Rattle.pcal_tree.specs.Algorithm as tree
use Rattle.pcal_tree.specs.InMemory.{macro_at, procedure_at}
use Rattle.pcal_tree.specs.Offences.{first}
use Rattle.algorithm_answer.specs.Joined.{joined}
use Rattle.label_steps.specs.MissingLabels.{due_in, due_in_body}
use Rattle.label_steps.proofs.WalkLaws.{whole_due}
use Rattle.label_steps.proofs.due.due_refusal.Goals as goal

pub returns : goal.returns
returns c = λ ts.
    whole_due ts c.args.algorithm.now c.with_macros-macros.result c.with_procedures-procedures.result c.with_main.result
    (c.with_macros-macros.ensures ts ∙ ap (λ (ms : List Macro). first (flat_map (λ (d : tree.Macro). due_in false None d.body) (map (macro_at ts) ms))) c.deref.ensures.value)
    (c.with_procedures-procedures.ensures ts ∙ ap (λ (ps : List Procedure). joined c.with_macros-macros.result (first (flat_map (λ (q : tree.Procedure). due_in_body q.body) (map (procedure_at ts) ps)))) c.deref-2.ensures.value)
    (c.with_main.ensures ts)
