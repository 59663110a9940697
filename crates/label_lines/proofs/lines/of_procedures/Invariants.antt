-- What is kept while routines are gone through: the lines of those that are left still give the whole.
use Rattle.std.proofs.Common.{◌≡◌, ◌++◌, List, map, drop}
use Rattle.std.specs.List.{flat_map}
use Rattle.tla_tree.specs.Tree.{Tree}
use Rattle.pcal_tree.specs.Algorithm.{numbered, procedure_routine}
use Rattle.pcal_tree.specs.InMemory.{procedure_at}
use Rattle.written_names.specs.Units.{naming_of}
use Rattle.source_map.specs.Lines.{lines_of_unit}
use Rattle.label_lines.specs.Found.{lines_seen}
use Rattle.label_lines.proofs.lines.of_procedures.Given as goal

abbrev pub invariant-loop-procedure : goal.invariant-loop-procedure
invariant-loop-procedure l =
    (ts : List Tree) → lines_seen l.into.items ++ flat_map (lines_of_unit (naming_of l.naming)) (numbered procedure_routine l.number (map (procedure_at ts) (drop l.procedure-index l.list)))
    ≡ lines_seen l.fn.into.items ++ flat_map (lines_of_unit (naming_of l.naming)) (numbered procedure_routine l.fn.first (map (procedure_at ts) l.list))
