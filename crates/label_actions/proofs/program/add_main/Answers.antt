-- Proves that the actions of what runs are those of the one body, or of the processes.
use Rattle.std.proofs.Common.{◌≡◌, List, ◌++◌, map, refl, sym, ap, subst, ◌∙◌, append-nil}
use Rattle.std.specs.List.{flat_map}
use Rattle.std.proofs.lemmas.Result.{on_ok_weaker}
use Rattle.module_tree.specs.Module as tree
use Rattle.pcal_tree.specs.Algorithm as pure
use Rattle.pcal_tree.specs.Algorithm.{Routine, alone, processes, numbered, process_routine, alone_routine}
use Rattle.pcal_tree.specs.InMemory.{statements_at, process_at, main_at}
use Rattle.pcal_tree.specs.Processes.{OneOf}
use Rattle.pcal_tree.specs.Takers.{lone, taken_process}
use Rattle.module_write.specs.InMemory.{actions_at}
use Rattle.step_forms.specs.Steps.{step_actions, routine_steps, main_steps}
use Rattle.module_formulas.specs.TakersIn.{taken}
use Rattle.label_actions.proofs.ProgramLaws.{alone_one, process_one}
use Rattle.label_actions.proofs.program.add_main.Goals as goal

pub returns-in-Alone-clause-made : goal.returns-in-Alone-clause-made
returns-in-Alone-clause-made c =
    let ts = c.args.pool.now in
    let old = actions_at ts c.args.out.now.items in
    let ss = statements_at ts c.in-Alone.body.items in
    on_ok_weaker c.add_steps.result (λ g P a b m n.
    let q : alone ss ≡ P.algorithm.main = ap (main_at ts) (sym c.in-Alone.is) ∙ m in
    let t = taken lone (alone_routine P.algorithm ss) in
    g P t a (alone_one P.algorithm ss q) b
    (record { number = sym n; takers = refl; params = refl; variables = refl; body = ap (statements_at ts) (sym c.deref.ensures.value); exit = refl })
    ∙ ap (λ (l : List tree.Action). old ++ l) (sym (append-nil (step_actions P t)) ∙ ap (main_steps P) q))
    c.add_steps.ensures.made

pub returns-in-Processes-clause-made : goal.returns-in-Processes-clause-made
returns-in-Processes-clause-made c =
    let ts = c.args.pool.now in
    let old = actions_at ts c.args.out.now.items in
    let ps = map (process_at ts) c.in-Processes.list.items in
    on_ok_weaker c.add_processes.result (λ g P a b m n.
    let q : processes ps ≡ P.algorithm.main = ap (main_at ts) (sym c.in-Processes.is) ∙ m in
    let same : map (process_at ts) c.deref-in-Processes.result.now ≡ ps = ap (map (process_at ts)) c.deref-in-Processes.ensures.value in
    g P a b (λ u h. process_one P.algorithm c.args.number ps n q u (subst (λ (l : List pure.Process). OneOf u (numbered process_routine c.args.number l)) same h))
    ∙ (λ j. old ++ flat_map (routine_steps P) (numbered taken_process (n j) (same j)))
    ∙ ap (λ (l : List tree.Action). old ++ l) (ap (main_steps P) q))
    c.add_processes.ensures.made
