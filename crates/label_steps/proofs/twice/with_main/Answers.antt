-- Proves that the first variable that is assigned twice in what runs is found.
use Rattle.std.proofs.Common.{Some, [], List, map, sym, ap, ◌∙◌}
use Rattle.std.specs.List.{flat_map}
use Rattle.std.proofs.lemmas.Result.{IfOk-weaker}
use Rattle.pcal_tree.specs.declared.algorithm.Stmt.{Stmt}
use Rattle.pcal_tree.specs.declared.algorithm.Process.{Process}
use Rattle.pcal_tree.specs.declared.algorithm.Main.{Main}
use Rattle.pcal_tree.specs.Algorithm as tree
use Rattle.pcal_tree.specs.InMemory.{statements_at, process_at, main_at}
use Rattle.pcal_tree.specs.Offences.{first}
use Rattle.pcal_tree.specs.Paths.{Effects}
use Rattle.pcal_tree.specs.laws.MacroSummaries.{summary_effect}
use Rattle.algorithm_answer.specs.Joined.{joined}
use Rattle.label_steps.specs.AroundIn.{effects_around}
use Rattle.label_steps.specs.StraightPaths.{straight_twice, straight_in_main}
use Rattle.label_steps.proofs.TwiceLaws.{outside}
use Rattle.label_steps.proofs.twice.with_main.Goals as goal

pub returns-in-Alone : goal.returns-in-Alone
returns-in-Alone c =
    IfOk-weaker c.with_body.result _ _ (λ r h ms k.
    let ts = c.args.pool.now in
    h ms k ∙ ap (λ (ys : List Stmt). joined c.args.found (first (straight_twice (effects_around c.args.around.now ms) (Some []) (statements_at ts ys)))) c.deref.ensures.value
    ∙ ap (λ (E : Effects). joined c.args.found (first (straight_twice E (Some []) (statements_at ts c.in-Alone.body.items)))) (outside c.args.around.now ms c.requires.name c.requires.own)
    ∙ ap (λ (m : Main). joined c.args.found (first (straight_in_main (summary_effect ms) (main_at ts m)))) (sym c.in-Alone.is)) c.with_body.ensures

pub returns-in-Processes : goal.returns-in-Processes
returns-in-Processes c =
    IfOk-weaker c.with_processes.result _ _ (λ r h ms k.
    let ts = c.args.pool.now in
    h ms k
    ∙ ap (λ (ys : List Process). joined c.args.found (first (flat_map (λ (p : tree.Process). straight_twice (effects_around c.args.around.now ms) (Some []) p.body) (map (process_at ts) ys)))) c.deref-in-Processes.ensures.value
    ∙ ap (λ (E : Effects). joined c.args.found (first (flat_map (λ (p : tree.Process). straight_twice E (Some []) p.body) (map (process_at ts) c.in-Processes.list.items)))) (outside c.args.around.now ms c.requires.name c.requires.own)
    ∙ ap (λ (m : Main). joined c.args.found (first (straight_in_main (summary_effect ms) (main_at ts m)))) (sym c.in-Processes.is)) c.with_processes.ensures
