-- Proves that the formulas are those of the program.
use Rattle.std.proofs.Common.{◌++◌, List, map, ap, ◌∙◌}
use Rattle.std.proofs.lemmas.Result.{IfOk-weaker}
use Rattle.pcal_tree.specs.InMemory.{algorithm_at}
use Rattle.written_names.specs.Units.{naming_of}
use Rattle.fairness.specs.Demands.{demands}
use Rattle.fairness_lines.specs.declared.demands.Demand.{Demand}
use Rattle.fairness_lines.specs.Asked.{Asked, asked}
use Rattle.fairness_lines.specs.DemandsAt.{all_asked}
use Rattle.fairness_lines.specs.LinesOf.{line_for}
use Rattle.fairness_lines.proofs.LineLaws.{lines_are}
use Rattle.fairness_lines.proofs.lines.spec_of.Goals as goal

pub returns-clause-lines : goal.returns-clause-lines
returns-clause-lines c = λ P d.
    IfOk-weaker c.lines.result _ _ (λ r h.
    let pool = c.args.pool.now in
    let f = naming_of c.args.draft.now.naming.now in
    h
    ∙ ap (λ (xs : List Asked). map (line_for f) xs)
    (ap (λ (ds : List Demand). all_asked pool ds) c.deref.ensures.value
    ∙ c.in_ok-add_demands.ensures.asked pool
    ∙ ap (λ (ds : List Demand). all_asked pool ds ++ map (asked f) (demands (algorithm_at pool c.args.draft.now.algorithm.now))) c.new-demands.ensures.items)
    ∙ (λ i. map (line_for (d.naming i)) (map (asked (d.naming i)) (demands (d.algorithm i))))
    ∙ lines_are P)
    c.lines.ensures.lines
