-- Proves that the first value of pc is that of the one process, or by cases.
use Rattle.std.proofs.Common.{◌≡◌, ◌<◌, length, refl, sym, ap, ◌∙◌, rules, arith}
use Rattle.std.proofs.lemmas.Result.{IfOk-weaker}
use Rattle.pcal_tree.specs.declared.algorithm.Process.{Process}
use Rattle.pcal_tree.specs.Algorithm.{process_routine}
use Rattle.pcal_tree.specs.InMemory.{process_at, statements_at}
use Rattle.module_formulas.proofs.RoutineLaws.{pc_of_one, pc_by_cases}
use Rattle.module_formulas.proofs.init.of_processes.Goals as goal

pub returns-then-is_empty-clause-tree : goal.returns-then-is_empty-clause-tree
returns-then-is_empty-clause-tree c =
    let none : length c.args.list.now ≡ 0 = search rules in
    IfOk-weaker c.string_of.result _ _ (λ r h P d some. absurd (omega (arith, none, some))) c.string_of.ensures.tree

pub returns-then-list-eq1-clause-tree : goal.returns-then-list-eq1-clause-tree
returns-then-list-eq1-clause-tree c =
    let ts = c.args.pool.now in
    let one : length c.args.list.now ≡ 1 = search rules in
    IfOk-weaker c.first_pc.result _ _ (λ r h P d some.
    h ts P (process_routine c.args.first (process_at ts c.index-list-0.result)) d.naming refl (ap (λ (p : Process). statements_at ts p.body.items) c.index-list-0.is ∙ ap (statements_at ts) (sym c.deref.ensures.value)) refl
    ∙ pc_of_one P ts c.args.first c.args.list.now c.index-list-0.result one c.index-list-0.is)
    c.first_pc.ensures.tree

pub returns-else-list-eq1-clause-tree : goal.returns-else-list-eq1-clause-tree
returns-else-list-eq1-clause-tree c =
    let more : 1 < length c.args.list.now = search rules in
    IfOk-weaker c.by_cases.result _ _ (λ r h P d some. h P d ∙ pc_by_cases P c.args.pool.now c.args.first c.args.list.now more) c.by_cases.ensures.tree
