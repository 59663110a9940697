-- What is kept while procedures are gone through: the labels of those that are left give the whole.
use Rattle.std.proofs.Common.{◌≡◌, ◌++◌, List, map, drop}
use Rattle.tla_tree.specs.Tree.{Tree}
use Rattle.pcal_tree.specs.Algorithm.{numbered, procedure_routine}
use Rattle.pcal_tree.specs.InMemory.{procedure_at}
use Rattle.written_names.specs.Units.{naming_of}
use Rattle.fairness_lines.specs.LinesOf.{every_in}
use Rattle.fairness_lines.proofs.obligations.add_procedures.Given as goal

abbrev pub invariant-loop-procedure : goal.invariant-loop-procedure
invariant-loop-procedure l =
    (ts : List Tree) → l.into ++ every_in (naming_of l.draft.naming.now) (numbered procedure_routine l.unit (map (procedure_at ts) (drop l.procedure-index l.list)))
    ≡ l.fn.into ++ every_in (naming_of l.draft.naming.now) (numbered procedure_routine l.fn.first (map (procedure_at ts) l.list))
