-- Proves that the labels of an algorithm are those of its parts, one after another.
use Rattle.std.proofs.Common.{List, ◌++◌, sym, ap, ◌∙◌}
use Rattle.std.specs.List.{flat_map}
use Rattle.pcal_tree.specs.declared.algorithm.Macro.{Macro}
use Rattle.pcal_tree.specs.declared.algorithm.Procedure.{Procedure}
use Rattle.algorithm_limits.specs.declared.count.Count.{Count}
use Rattle.algorithm_limits.specs.Counting.{none_of, counted}
use Rattle.algorithm_limits.specs.LabelsIn.{macro_labels, procedure_labels, main_labels}
use Rattle.algorithm_limits.proofs.Counts.{counted_append}
use Rattle.algorithm_limits.proofs.labels.labels.Goals as goal

pub returns : goal.returns
returns c = λ ts.
    let macros = flat_map (macro_labels ts) c.args.algorithm.now.macros.items in
    let procedures = flat_map (procedure_labels ts) c.args.algorithm.now.procedures.items in
    let main = main_labels ts c.args.algorithm.now.main in
    c.with_main.ensures ts
    ∙ ap (λ (b : Count). counted b main)
    (c.with_procedures-procedures.ensures ts ∙ ap (λ (ps : List Procedure). counted c.with_macros-macros.result (flat_map (procedure_labels ts) ps)) c.deref-2.ensures.value)
    ∙ sym (counted_append c.with_macros-macros.result procedures main)
    ∙ ap (λ (b : Count). counted b (procedures ++ main))
    (c.with_macros-macros.ensures ts
    ∙ ap (λ (ms : List Macro). counted c.none_of.result (flat_map (macro_labels ts) ms)) c.deref.ensures.value
    ∙ ap (λ (b : Count). counted b macros) c.none_of.ensures)
    ∙ sym (counted_append (none_of 8192) macros (procedures ++ main))
