-- The lines of what runs, in memory.
use Rattle.std.specs.Prelude.{ℕ, List, map}
use Rattle.std.specs.List.{flat_map}
use Rattle.tla_tree.specs.Tree.{Word, Tree}
use Rattle.pcal_tree.specs.declared.algorithm.Main.{Main}
use Rattle.pcal_tree.specs.declared.algorithm.Main.TheVariants as main
use Rattle.pcal_tree.specs.Algorithm.{Naming, numbered, process_routine}
use Rattle.pcal_tree.specs.InMemory.{statements_at, process_at}
use Rattle.source_map.specs.Lines.{Line, lines_in, lines_of_unit}

-- the one body has this number and this name
abbrev pub main_lines : Naming → ℕ → Word → List Tree → Main → List Line
main_lines f n name ts (main.Alone ss) = lines_in (f.label n) name (statements_at ts ss.items)
main_lines f n name ts (main.Processes ps) = flat_map (lines_of_unit f) (numbered process_routine n (map (process_at ts) ps.items))
