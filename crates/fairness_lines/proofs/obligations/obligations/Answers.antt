-- Proves that the obligations are those of the program.
use Rattle.std.proofs.Common.{◌++◌, List, map, ap, ◌∙◌}
use Rattle.std.proofs.lemmas.Result.{IfOk-weaker}
use Rattle.pcal_tree.specs.Algorithm.{routines}
use Rattle.pcal_tree.specs.InMemory.{algorithm_at}
use Rattle.written_names.specs.Units.{naming_of}
use Rattle.fairness.specs.Demands.{demands}
use Rattle.fairness_lines.specs.declared.demands.Demand.{Demand}
use Rattle.fairness_lines.specs.Asked.{Asked, asked}
use Rattle.fairness_lines.specs.DemandsAt.{all_asked}
use Rattle.fairness_lines.specs.LinesOf.{obligation_for, every_in}
use Rattle.fairness_lines.proofs.ObligationLaws.{obligations_are}
use Rattle.fairness_lines.proofs.obligations.obligations.Goals as goal

pub returns : goal.returns
returns c =
    IfOk-weaker c.each.result _ _ (λ r h ts P d.
    let f = naming_of c.args.draft.now.naming.now in
    let a = algorithm_at ts c.args.draft.now.algorithm.now in
    h ts
    ∙ ap (λ (xs : List Asked). map (obligation_for f (every_in f (routines a))) xs)
    (ap (λ (ds : List Demand). all_asked ts ds) c.deref.ensures.value
    ∙ c.in_ok-add_demands.ensures.asked ts
    ∙ ap (λ (ds : List Demand). all_asked ts ds ++ map (asked f) (demands a)) c.new-demands.ensures.items)
    ∙ (λ i. map (obligation_for (d.naming i) (every_in (d.naming i) (routines (d.algorithm i)))) (map (asked (d.naming i)) (demands (d.algorithm i))))
    ∙ obligations_are P)
    c.each.ensures
