-- What is kept while routines are gone through: what is there, with the names of those that are left, is the whole.
use Rattle.std.proofs.Common.{◌≡◌, ◌++◌, List, map, drop}
use Rattle.tla_tree.specs.Tree.{Tree}
use Rattle.pcal_tree.specs.Algorithm.{numbered, process_routine}
use Rattle.pcal_tree.specs.InMemory.{process_at}
use Rattle.written_names.specs.Units.{naming_of}
use Rattle.draft.specs.RoutineNames.{all_names_where}
use Rattle.draft.proofs.variables.add_processes.Given as goal

abbrev pub invariant-loop-process : goal.invariant-loop-process
invariant-loop-process l =
    (ts : List Tree) → l.into ++ all_names_where (naming_of l.naming) l.every (numbered process_routine l.number (map (process_at ts) (drop l.process-index l.list)))
    ≡ l.fn.into ++ all_names_where (naming_of l.naming) l.every (numbered process_routine l.fn.first (map (process_at ts) l.list))
