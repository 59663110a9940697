-- Proves that the first offence of what runs is found.
use Rattle.std.proofs.Common.{◌≡◌, List, [], map, sym, subst, IfOk}
use Rattle.std.specs.List.{flat_map}
use Rattle.pcal_tree.specs.declared.algorithm.Main.{Main}
use Rattle.pcal_tree.specs.declared.algorithm.Process.{Process}
use Rattle.pcal_tree.specs.declared.algorithm.Stmt.{Stmt}
use Rattle.pcal_tree.specs.Algorithm.{Procedure}
use Rattle.pcal_tree.specs.InMemory.{statements_at, process_at, main_at}
use Rattle.pcal_tree.specs.Offences.{first}
use Rattle.pcal_tree.specs.OffencesStale.{stale_at, stale_in_process, stale_in_main}
use Rattle.pcal_tree.specs.Reads.{Reading}
use Rattle.pcal_tree.specs.laws.MacroSpots.{MacroSeen}
use Rattle.read_rules.specs.KnownIn.{Knows}
use Rattle.read_rules.specs.ReadsIn.{AreReads}
use Rattle.read_rules.specs.RefusalsIn.{looking}
use Rattle.read_rules.proofs.routines.of_main.Goals as goal

pub returns-in-Alone : goal.returns-in-Alone
returns-in-Alone c =
    subst (λ (m : Main). IfOk c.with_body.result (λ r. (ms : List MacroSeen) → (ps : List Procedure) → (ds : List Reading) → Knows c.args.known.now ms ps → AreReads c.args.reads.now ds
    → r ≡ first (stale_in_main (looking ms ps) ds (main_at c.args.pool.now m)))) (sym c.in-Alone.is)
    (subst (λ (ss : List Stmt). IfOk c.with_body.result (λ r. (ms : List MacroSeen) → (ps : List Procedure) → (ds : List Reading) → Knows c.args.known.now ms ps → AreReads c.args.reads.now ds
    → r ≡ first (flat_map (stale_at ds []) (looking ms ps [] (statements_at c.args.pool.now ss))))) c.deref.ensures.value c.with_body.ensures)

pub returns-in-Processes : goal.returns-in-Processes
returns-in-Processes c =
    subst (λ (m : Main). IfOk c.of_processes.result (λ r. (ms : List MacroSeen) → (ps : List Procedure) → (ds : List Reading) → Knows c.args.known.now ms ps → AreReads c.args.reads.now ds
    → r ≡ first (stale_in_main (looking ms ps) ds (main_at c.args.pool.now m)))) (sym c.in-Processes.is)
    (subst (λ (qs : List Process). IfOk c.of_processes.result (λ r. (ms : List MacroSeen) → (ps : List Procedure) → (ds : List Reading) → Knows c.args.known.now ms ps → AreReads c.args.reads.now ds
    → r ≡ first (flat_map (stale_in_process (looking ms ps) ds) (map (process_at c.args.pool.now) qs)))) c.deref-in-Processes.ensures.value c.of_processes.ensures)
