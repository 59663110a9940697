-- The names of the labels of an algorithm in memory, where the pool has these trees.
use Rattle.std.specs.Prelude.{List, ◌++◌}
use Rattle.std.specs.List.{flat_map}
use Rattle.tla_tree.specs.Tree.{Tree}
use Rattle.pcal_tree.specs.declared.algorithm.Macro.{Macro}
use Rattle.pcal_tree.specs.declared.algorithm.Procedure.{Procedure}
use Rattle.pcal_tree.specs.declared.algorithm.Process.{Process}
use Rattle.pcal_tree.specs.declared.algorithm.Main.{Main}
use Rattle.pcal_tree.specs.declared.algorithm.Main.TheVariants as main
use Rattle.pcal_tree.specs.declared.algorithm.Algorithm.{Algorithm}
use Rattle.pcal_tree.specs.Algorithm.{Name}
use Rattle.pcal_tree.specs.InMemory.{statements_at}
use Rattle.algorithm_limits.specs.LabelNames.{label_names}

abbrev pub macro_labels : List Tree → Macro → List Name
macro_labels ts m = label_names (statements_at ts m.body.items)

abbrev pub procedure_labels : List Tree → Procedure → List Name
procedure_labels ts p = label_names (statements_at ts p.body.items)

abbrev pub process_labels : List Tree → Process → List Name
process_labels ts p = label_names (statements_at ts p.body.items)

abbrev pub main_labels : List Tree → Main → List Name
main_labels ts (main.Alone ss) = label_names (statements_at ts ss.items)
main_labels ts (main.Processes ps) = flat_map (process_labels ts) ps.items

abbrev pub labels_in : List Tree → Algorithm → List Name
labels_in ts a = flat_map (macro_labels ts) a.macros.items ++ (flat_map (procedure_labels ts) a.procedures.items ++ main_labels ts a.main)
