-- Proves that all that what runs offends is found.
use Rattle.std.proofs.Common.{◌++◌, false, List, map, sym, ap, ◌∙◌}
use Rattle.std.specs.List.{flat_map}
use Rattle.std.proofs.lemmas.Result.{on_ok_weaker}
use Rattle.pcal_tree.specs.declared.algorithm.Stmt.{Stmt}
use Rattle.pcal_tree.specs.declared.algorithm.Process.{Process}
use Rattle.pcal_tree.specs.declared.algorithm.Main.{Main}
use Rattle.pcal_tree.specs.Algorithm as tree
use Rattle.pcal_tree.specs.InMemory.{statements_at, process_at, main_at}
use Rattle.pcal_tree.specs.OffencesLabels.{misplaced, of_main}
use Rattle.pcal_tree.specs.OffencesSteps.{missing_in_body}
use Rattle.pcal_tree.specs.Paths.{Effects}
use Rattle.pcal_tree.specs.laws.MacroSummaries.{summary_effect}
use Rattle.label_steps.specs.AroundIn.{effects_around}
use Rattle.label_steps.proofs.TwiceLaws.{outside}
use Rattle.label_rules.proofs.all.add_main.Goals as goal

pub returns-in-Alone : goal.returns-in-Alone
returns-in-Alone c =
    on_ok_weaker c.add_body.result (λ h ms k.
    let ts = c.args.pool.now in
    let found = c.args.found.now.items in
    let around = c.args.place.now.around in
    h ms k ∙ ap (λ (ys : List Stmt). found ++ (missing_in_body (effects_around around ms) (statements_at ts ys) ++ misplaced false false (statements_at ts ys))) c.deref.ensures.value
    ∙ ap (λ (E : Effects). found ++ (missing_in_body E (statements_at ts c.in-Alone.body.items) ++ misplaced false false (statements_at ts c.in-Alone.body.items))) (outside around ms c.requires.outside.name c.requires.outside.own)
    ∙ ap (λ (m : Main). found ++ of_main (summary_effect ms) (main_at ts m)) (sym c.in-Alone.is)) c.add_body.ensures

pub returns-in-Processes : goal.returns-in-Processes
returns-in-Processes c =
    on_ok_weaker c.add_processes.result (λ h ms k.
    let ts = c.args.pool.now in
    let found = c.args.found.now.items in
    let around = c.args.place.now.around in
    h ms k
    ∙ ap (λ (ys : List Process). found ++ flat_map (λ (p : tree.Process). missing_in_body (effects_around around ms) p.body ++ misplaced false false p.body) (map (process_at ts) ys)) c.deref-in-Processes.ensures.value
    ∙ ap (λ (E : Effects). found ++ flat_map (λ (p : tree.Process). missing_in_body E p.body ++ misplaced false false p.body) (map (process_at ts) c.in-Processes.list.items))
    (outside around ms c.requires.outside.name c.requires.outside.own)
    ∙ ap (λ (m : Main). found ++ of_main (summary_effect ms) (main_at ts m)) (sym c.in-Processes.is)) c.add_processes.ensures
