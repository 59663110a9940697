-- Proves that the conjunct of pc is as it is defined.
use Rattle.std.proofs.Common.{◌≡◌, sym, ap, subst, ◌∙◌}
use Rattle.std.proofs.lemmas.Result.{IfOk-weaker}
use Rattle.module_tree.specs.Formulas.{equal}
use Rattle.pcal_tree.specs.Algorithm as pure
use Rattle.pcal_tree.specs.InMemory.{main_at}
use Rattle.pcal_tree.specs.Takers.{taken_main}
use Rattle.action_builder.specs.InitialFormulas.{for_all_processes, pc_value}
use Rattle.module_formulas.specs.TakersIn.{Runs}
use Rattle.module_formulas.proofs.init.pc_start.Goals as goal

pub returns-clause-tree : goal.returns-clause-tree
returns-clause-tree c =
    let ts = c.args.pool.now in
    let m = c.args.draft.now.algorithm.now.main in
    let all = c.in_ok-all.ensures in
    let name = c.in_ok-name.ensures in
    IfOk-weaker c.equal.result _ _ (λ r h P d runs number.
    let main : main_at ts m ≡ P.algorithm.main = ap (λ (a : pure.Algorithm). a.main) d.algorithm in
    let value = c.in_ok-value.ensures.tree P d (subst Runs (sym main) runs) number in
    h
    ∙ (λ j. equal (name.tree j) ((name.kept.same c.in_ok-all.all all.within ∙ all.tree ts ∙ (λ k. for_all_processes (main k) ((value ∙ ap (λ (n : pure.Main). pc_value P (taken_main P.algorithm n)) main) k))) j)))
    c.equal.ensures.tree
