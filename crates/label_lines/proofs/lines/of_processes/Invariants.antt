-- What is kept while routines are gone through: the lines of those that are left still give the whole.
use Rattle.std.proofs.Common.{◌≡◌, ◌++◌, List, map, drop}
use Rattle.std.specs.List.{flat_map}
use Rattle.tla_tree.specs.Tree.{Tree}
use Rattle.pcal_tree.specs.Algorithm.{numbered, process_routine}
use Rattle.pcal_tree.specs.InMemory.{process_at}
use Rattle.written_names.specs.Units.{naming_of}
use Rattle.source_map.specs.Lines.{lines_of_unit}
use Rattle.label_lines.specs.Found.{lines_seen}
use Rattle.label_lines.proofs.lines.of_processes.Given as goal

abbrev pub invariant-loop-process : goal.invariant-loop-process
invariant-loop-process l =
    (ts : List Tree) → lines_seen l.into.items ++ flat_map (lines_of_unit (naming_of l.naming)) (numbered process_routine l.number (map (process_at ts) (drop l.process-index l.list)))
    ≡ lines_seen l.fn.into.items ++ flat_map (lines_of_unit (naming_of l.naming)) (numbered process_routine l.fn.first (map (process_at ts) l.list))
