-- What is kept while procedures are added: the rows are those of the procedures so far.
use Rattle.std.proofs.Common.{◌≡◌, [], List, length, map, take}
use Rattle.tla_tree.specs.Tree.{Tree}
use Rattle.pcal_tree.specs.InMemory.{procedure_at}
use Rattle.fairness_lines.specs.Tables.{rows_of}
use Rattle.fairness_lines.proofs.Reaching.{lists}
use Rattle.fairness_lines.proofs.table.add_procedures.Given as goal

abbrev pub invariant-loop-procedure : goal.invariant-loop-procedure
invariant-loop-procedure l =
    (length l.rows.items ≡ length l.names)
    × ((ts : List Tree) → lists l.fn.rows.items ≡ rows_of l.names [] → lists l.rows.items ≡ rows_of l.names (map (procedure_at ts) (take l.procedure-index l.procedures)))
