-- What is kept while routines are gone through: what is there, with the names of those that are left, is the whole.
use Rattle.std.proofs.Common.{◌≡◌, ◌++◌, List, map, drop, true}
use Rattle.tla_tree.specs.Tree.{Tree}
use Rattle.pcal_tree.specs.Algorithm.{numbered, procedure_routine}
use Rattle.pcal_tree.specs.InMemory.{procedure_at}
use Rattle.written_names.specs.Units.{naming_of}
use Rattle.draft.specs.RoutineNames.{all_names_where}
use Rattle.draft.proofs.variables.add_procedures.Given as goal

abbrev pub invariant-loop-procedure : goal.invariant-loop-procedure
invariant-loop-procedure l =
    (ts : List Tree) → l.into ++ all_names_where (naming_of l.naming) true (numbered procedure_routine l.number (map (procedure_at ts) (drop l.procedure-index l.list)))
    ≡ l.fn.into ++ all_names_where (naming_of l.naming) true (numbered procedure_routine l.fn.first (map (procedure_at ts) l.list))
