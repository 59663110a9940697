-- What is kept while processes are gone through: those that are left give the whole, and numbers stay below a bound.
use Rattle.std.proofs.Common.{◌≡◌, ◌++◌, ◌≤◌, ℕ, List, map, drop}
use Rattle.tla_tree.specs.Tree.{Tree}
use Rattle.tla_tree.specs.Nesting.{greatest}
use Rattle.pcal_tree.specs.InMemory.{procedure_at, process_at, algorithm_at, past_process}
use Rattle.written_names.specs.Units.{naming_of}
use Rattle.fairness_lines.specs.Tables.{IsTable}
use Rattle.fairness_lines.specs.Asked.{asked_of_processes}
use Rattle.fairness_lines.specs.DemandsAt.{all_asked, AllDemandsIn}
use Rattle.fairness_lines.proofs.Reaching.{lists}
use Rattle.fairness_lines.proofs.demands.add_processes.Given as goal

abbrev pub invariant-loop-process : goal.invariant-loop-process
invariant-loop-process l =
    ((ts : List Tree) → IsTable (map (procedure_at ts) l.draft.algorithm.now.procedures.items) l.table.names (lists l.table.rows.items)
    → all_asked ts l.into.items ++ asked_of_processes (naming_of l.draft.naming.now) (algorithm_at ts l.draft.algorithm.now) l.number (map (process_at ts) (drop l.process-index l.list))
    ≡ all_asked ts l.fn.into.items ++ asked_of_processes (naming_of l.draft.naming.now) (algorithm_at ts l.draft.algorithm.now) l.fn.first (map (process_at ts) l.list))
    × ((m : ℕ) → AllDemandsIn m l.fn.into.items → greatest (map past_process l.list) ≤ m → AllDemandsIn m l.into.items)
