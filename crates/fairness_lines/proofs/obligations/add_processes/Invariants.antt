-- What is kept while processes are gone through: the labels of those that are left give the whole.
use Rattle.std.proofs.Common.{◌≡◌, ◌++◌, List, map, drop}
use Rattle.tla_tree.specs.Tree.{Tree}
use Rattle.pcal_tree.specs.Algorithm.{numbered, process_routine}
use Rattle.pcal_tree.specs.InMemory.{process_at}
use Rattle.written_names.specs.Units.{naming_of}
use Rattle.fairness_lines.specs.LinesOf.{every_in}
use Rattle.fairness_lines.proofs.obligations.add_processes.Given as goal

abbrev pub invariant-loop-process : goal.invariant-loop-process
invariant-loop-process l =
    (ts : List Tree) → l.into ++ every_in (naming_of l.draft.naming.now) (numbered process_routine l.unit (map (process_at ts) (drop l.process-index l.list)))
    ≡ l.fn.into ++ every_in (naming_of l.draft.naming.now) (numbered process_routine l.fn.first (map (process_at ts) l.list))
