-- Proves that the first value of pc is that of what runs.
use Rattle.std.proofs.Common.{◌≤◌, List, length, map, refl, sym, ap, subst, ◌∙◌, arith}
use Rattle.std.proofs.lemmas.Result.{IfOk-weaker}
use Rattle.pcal_tree.specs.declared.algorithm.Main.{Main}
use Rattle.pcal_tree.specs.declared.algorithm.Process.{Process}
use Rattle.pcal_tree.specs.Algorithm.{alone_routine, numbered}
use Rattle.pcal_tree.specs.InMemory.{process_at, statements_at, main_at, past_main, past_process}
use Rattle.tla_tree.specs.Nesting.{greatest}
use Rattle.pcal_tree.specs.Takers.{taken_process, taken_main}
use Rattle.action_builder.specs.InitialFormulas.{pc_value}
use Rattle.module_formulas.specs.TakersIn.{Runs}
use Rattle.module_formulas.proofs.RoutineLaws.{some_run}
use Rattle.module_formulas.proofs.init.pc_value.Goals as goal

pub returns-in-Alone-clause-tree : goal.returns-in-Alone-clause-tree
returns-in-Alone-clause-tree c =
    let ts = c.args.pool.now in
    IfOk-weaker c.first_pc.result _ _ (λ r h P d runs number.
    h ts P (alone_routine P.algorithm (statements_at ts c.in-Alone.body.items)) d.naming (sym number) (ap (statements_at ts) (sym c.deref.ensures.value)) refl
    ∙ ap (λ (m : Main). pc_value P (taken_main P.algorithm (main_at ts m))) (sym c.in-Alone.is))
    c.first_pc.ensures.tree

pub returns-in-Processes-clause-tree : goal.returns-in-Processes-clause-tree
returns-in-Processes-clause-tree c =
    let ts = c.args.pool.now in
    let list = c.in-Processes.list.items in
    IfOk-weaker c.of_processes.result _ _ (λ r h P d runs number.
    let some = some_run ts list (subst (λ (m : Main). Runs (main_at ts m)) c.in-Processes.is runs) in
    h P d (omega (arith, some, ap (λ (ps : List Process). length ps) c.deref-in-Processes.ensures.value))
    ∙ (λ j. pc_value P (numbered taken_process (number j) (map (process_at ts) (c.deref-in-Processes.ensures.value j))))
    ∙ ap (λ (m : Main). pc_value P (taken_main P.algorithm (main_at ts m))) (sym c.in-Processes.is))
    c.of_processes.ensures.tree

pub of_processes-requires : goal.of_processes-requires
of_processes-requires c =
    let past = ap past_main c.in-Processes.is in
    subst (λ (ps : List Process). greatest (map past_process ps) ≤ length c.args.pool.now) (sym c.deref-in-Processes.ensures.value) (omega (arith, past, c.requires))
