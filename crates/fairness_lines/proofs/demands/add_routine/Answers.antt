-- Proves that the demands of the steps of a routine are added.
use Rattle.std.proofs.Common.{◌++◌, ◌∷◌, [], List, cond, map, sym, ap, ◌∙◌, subst, append_assoc}
use Rattle.std.proofs.lemmas.Result.{on_ok_weaker}
use Rattle.pcal_tree.specs.InMemory.{statements_at}
use Rattle.written_names.specs.Units.{naming_of}
use Rattle.fairness_lines.specs.declared.demands.Demand.{Demand}
use Rattle.marked_labels.specs.declared.labels.Wanted.TheVariants.{Strong}
use Rattle.marked_labels.specs.Wanted.{labels_of}
use Rattle.fairness_lines.specs.Asked.{Asked, of_label}
use Rattle.fairness_lines.specs.DemandsAt.{takers_at, all_asked, DemandIn, AllDemandsIn}
use Rattle.fairness_lines.proofs.AskedLaws.{pushed, all_push}
use Rattle.fairness_lines.proofs.demands.add_routine.Goals as goal

pub returns-clause-asked : goal.returns-clause-asked
returns-clause-asked c =
    on_ok_weaker c.add_strong_labels.result (λ h ts.
    let rest = cond c.args.owner.strong [] (map (of_label (takers_at ts c.args.owner) c.args.owner.number c.args.unit) (labels_of (naming_of c.args.draft.now.naming.now) c.args.unit Strong (statements_at ts c.args.body.now))) in
    h ts
    ∙ ap (λ (xs : List Asked). xs ++ rest) (ap (λ (ds : List Demand). all_asked ts ds) c.in_ok-push.ensures.items ∙ pushed ts c.args.into.now.items _)
    ∙ append_assoc (all_asked ts c.args.into.now.items) (_ ∷ []) rest)
    c.add_strong_labels.ensures.asked

pub returns-clause-within : goal.returns-clause-within
returns-clause-within c =
    on_ok_weaker c.add_strong_labels.result (λ h m k l.
    h m (subst (λ (ds : List Demand). AllDemandsIn m ds) (sym c.in_ok-push.ensures.items) (all_push (DemandIn m) c.args.into.now.items _ k l)) l)
    c.add_strong_labels.ensures.within
