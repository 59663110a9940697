-- Proves that the demands of a process are added.
use Rattle.std.proofs.Common.{◌++◌, List, refl, sym, ap, ◌∙◌}
use Rattle.std.proofs.lemmas.Result.{on_ok_weaker}
use Rattle.pcal_tree.specs.declared.algorithm.Stmt.{Stmt}
use Rattle.pcal_tree.specs.Algorithm.{process_routine}
use Rattle.pcal_tree.specs.Takers.{taken_process}
use Rattle.pcal_tree.specs.InMemory.{statements_at, process_at, algorithm_at}
use Rattle.written_names.specs.Units.{naming_of}
use Rattle.fairness_lines.specs.Asked.{Asked}
use Rattle.fairness_lines.specs.DemandsAt.{all_asked}
use Rattle.fairness_lines.proofs.AskedLaws.{fair_asked}
use Rattle.fairness_lines.proofs.demands.add_process.Goals as goal

pub returns-in-Some-clause-asked : goal.returns-in-Some-clause-asked
returns-in-Some-clause-asked c =
    on_ok_weaker c.add_fair.result (λ h ts t.
    let f = naming_of c.args.draft.now.naming.now in
    let a = algorithm_at ts c.args.draft.now.algorithm.now in
    h ts (process_routine c.args.number (process_at ts c.args.process.now)) t refl (ap (λ (ss : List Stmt). statements_at ts ss) (sym c.deref.ensures.value))
    ∙ ap (λ (xs : List Asked). all_asked ts c.args.into.now.items ++ xs)
    (sym (fair_asked f (taken_process c.args.number (process_at ts c.args.process.now)) a c.args.process.now.fairness c.in-Some.strong (sym c.in-Some.ensures))))
    c.add_fair.ensures.asked
