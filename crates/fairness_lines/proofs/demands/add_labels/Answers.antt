-- Proves that a demand for each label is added.
use Rattle.std.proofs.Common.{◌++◌, ◌∷◌, [], List, sym, ap, ◌∙◌, subst}
use Rattle.tla_tree.specs.Tree.{Word}
use Rattle.fairness_lines.specs.declared.demands.Demand.{Demand}
use Rattle.fairness_lines.specs.declared.demands.Demand.TheVariants.{Label}
use Rattle.fairness_lines.specs.Asked.{of_label}
use Rattle.fairness_lines.specs.DemandsAt.{takers_at, all_asked, DemandIn, AllDemandsIn}
use Rattle.fairness_lines.proofs.AskedLaws.{pushed, all_push, map_more, map_none}
use Rattle.fairness_lines.proofs.demands.add_labels.Goals as goal

pub loop-name-preserved : goal.loop-name-preserved
loop-name-preserved c = (
  λ ts.
      map_more (of_label (takers_at ts c.args.owner) c.args.owner.number c.args.unit) c.args.names.now c.loop-name.name-index c.name-item.result c.name-item.is c.loop-name-test.true
      (all_asked ts c.loop-name.into.items) (all_asked ts c.push.new.self.items) _
      (ap (λ (ds : List Demand). all_asked ts ds) c.in_ok-push.ensures.items ∙ pushed ts c.loop-name.into.items (Label c.args.owner c.args.unit c.in_ok-copied.field-0)
      ∙ ap (λ (x : Word). all_asked ts c.loop-name.into.items ++ of_label (takers_at ts c.args.owner) c.args.owner.number c.args.unit x ∷ []) c.in_ok-copied.ensures)
      (c.loop-name.invariant.0 ts),
  λ m h l.
      subst (λ (ds : List Demand). AllDemandsIn m ds) (sym c.in_ok-push.ensures.items)
      (all_push (DemandIn m) c.loop-name.into.items (Label c.args.owner c.args.unit c.in_ok-copied.field-0) (c.loop-name.invariant.1 m h l) l),
)

pub returns-clause-asked : goal.returns-clause-asked
returns-clause-asked c = λ ts. map_none _ c.args.names.now c.loop-name.name-index _ _ c.loop-name-test.false (c.loop-name.invariant.0 ts)

pub returns-clause-within : goal.returns-clause-within
returns-clause-within c = c.loop-name.invariant.1
