-- Proves that the conjuncts of what runs are added.
use Rattle.std.proofs.Common.{◌≤◌, ◌++◌, List, length, map, sym, ap, subst, ◌∙◌, append-nil, arith}
use Rattle.std.specs.List.{flat_map}
use Rattle.std.proofs.lemmas.Result.{on_ok_weaker}
use Rattle.tla_tree.specs.Tree.{Tree}
use Rattle.tla_tree.specs.Pool.{at}
use Rattle.tla_tree.specs.Nesting.{greatest}
use Rattle.pcal_tree.specs.declared.algorithm.Main.{Main}
use Rattle.pcal_tree.specs.declared.algorithm.Process.{Process}
use Rattle.pcal_tree.specs.Algorithm.{numbered}
use Rattle.pcal_tree.specs.InMemory.{process_at, main_at, statements_at, past_main, past_process}
use Rattle.pcal_tree.specs.Takers.{taken_process, taken_main}
use Rattle.action_builder.specs.InitialFormulas.{locals_start}
use Rattle.module_formulas.proofs.RoutineLaws.{none_of_body}
use Rattle.module_formulas.proofs.init.add_main.Goals as goal

pub add_processes-requires-clause-there : goal.add_processes-requires-clause-there
add_processes-requires-clause-there c =
    let past = ap past_main c.in-Processes.is in
    subst (λ (ps : List Process). greatest (map past_process ps) ≤ length c.args.pool.now) (sym c.deref.ensures.value) (omega (arith, past, c.requires.there))

pub returns-in-Alone-clause-made : goal.returns-in-Alone-clause-made
returns-in-Alone-clause-made c = λ P d number.
    let ts = c.args.pool.now in
    sym (append-nil (map (at ts) c.args.out.now.items))
    ∙ ap (λ (l : List Tree). map (at ts) c.args.out.now.items ++ l)
    (sym (none_of_body P P.algorithm (statements_at ts c.in-Alone.field-0.items)) ∙ ap (λ (m : Main). flat_map (locals_start P) (taken_main P.algorithm (main_at ts m))) (sym c.in-Alone.is))

pub returns-in-Processes-clause-made : goal.returns-in-Processes-clause-made
returns-in-Processes-clause-made c =
    let ts = c.args.pool.now in
    on_ok_weaker c.add_processes.result (λ h P d number.
    h P d
    ∙ (λ j. map (at ts) c.args.out.now.items ++ flat_map (locals_start P) (numbered taken_process (number j) (map (process_at ts) (c.deref.ensures.value j))))
    ∙ ap (λ (m : Main). map (at ts) c.args.out.now.items ++ flat_map (locals_start P) (taken_main P.algorithm (main_at ts m))) (sym c.in-Processes.is))
    c.add_processes.ensures.made
