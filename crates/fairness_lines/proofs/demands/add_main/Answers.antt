-- Proves that the demands of processes are added.
use Rattle.std.proofs.Common.{◌≡◌, ◌++◌, ◌≤◌, List, map, sym, ap, ◌∙◌, subst, arith}
use Rattle.std.proofs.lemmas.Result.{on_ok_weaker}
use Rattle.std.proofs.lemmas.List.{length-map}
use Rattle.tla_tree.specs.Nesting.{greatest}
use Rattle.pcal_tree.specs.declared.algorithm.Main.{Main}
use Rattle.pcal_tree.specs.declared.algorithm.Process.{Process}
use Rattle.pcal_tree.specs.declared.algorithm.Procedure.{Procedure}
use Rattle.pcal_tree.specs.Algorithm.{first_process}
use Rattle.pcal_tree.specs.InMemory.{macro_at, procedure_at, process_at, main_at, algorithm_at, past_process, past_main}
use Rattle.written_names.specs.Units.{naming_of}
use Rattle.fairness_lines.specs.Tables.{IsTable}
use Rattle.fairness_lines.specs.Asked.{asked_of_processes, asked_of_main}
use Rattle.fairness_lines.specs.DemandsAt.{all_asked}
use Rattle.fairness_lines.proofs.Reaching.{lists}
use Rattle.fairness_lines.proofs.demands.add_main.Goals as goal

pub returns-in_ok-first-in-Processes-clause-asked : goal.returns-in_ok-first-in-Processes-clause-asked
returns-in_ok-first-in-Processes-clause-asked c =
    on_ok_weaker c.add_processes.result (λ h ts.
    let f = naming_of c.args.draft.now.naming.now in
    let a = algorithm_at ts c.args.draft.now.algorithm.now in
    let table = c.in_ok-table-in-Processes.table in
    let first : c.in_ok-first-in-Processes.first ≡ first_process a =
    omega (
      arith,
      c.in_ok-first-in-Processes.ensures,
      c.len.ensures,
      c.len-in-Processes.ensures,
      c.args.draft.now.algorithm.now.macros.ok,
      c.args.draft.now.algorithm.now.procedures.ok,
      length-map c.args.draft.now.algorithm.now.macros.items (macro_at ts),
      length-map c.args.draft.now.algorithm.now.procedures.items (procedure_at ts),
    ) in
    h ts (subst (λ (ps : List Procedure). IsTable (map (procedure_at ts) ps) table.names (lists table.rows.items)) c.deref.ensures.value (c.in_ok-table-in-Processes.ensures ts))
    ∙ (λ i. all_asked ts c.args.into.now.items ++ asked_of_processes f a (first i) (map (process_at ts) (c.deref-in-Processes.ensures.value i)))
    ∙ ap (λ (m : Main). all_asked ts c.args.into.now.items ++ asked_of_main f a (main_at ts m)) (sym c.in-Processes.is))
    c.add_processes.ensures.asked

pub returns-in_ok-first-in-Processes-clause-within : goal.returns-in_ok-first-in-Processes-clause-within
returns-in_ok-first-in-Processes-clause-within c =
    on_ok_weaker c.add_processes.result (λ h m k l.
    h m k (subst (λ (ps : List Process). greatest (map past_process ps) ≤ m) (sym c.deref-in-Processes.ensures.value) (subst (λ (n : Main). past_main n ≤ m) c.in-Processes.is l)))
    c.add_processes.ensures.within
