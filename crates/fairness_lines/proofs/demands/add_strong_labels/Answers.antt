-- Proves that a demand for each label with strong fairness of its own is added.
use Rattle.std.proofs.Common.{◌++◌, [], List, Bool, cond, map, sym, ap, ◌∙◌}
use Rattle.std.proofs.lemmas.Result.{on_ok_weaker}
use Rattle.tla_tree.specs.Tree.{Word}
use Rattle.pcal_tree.specs.InMemory.{statements_at}
use Rattle.written_names.specs.Units.{naming_of}
use Rattle.marked_labels.specs.declared.labels.Wanted.TheVariants.{Strong}
use Rattle.marked_labels.specs.Wanted.{labels_of}
use Rattle.fairness_lines.specs.Asked.{of_label}
use Rattle.fairness_lines.specs.DemandsAt.{takers_at, all_asked}
use Rattle.fairness_lines.proofs.demands.add_strong_labels.Goals as goal

pub returns-clause-asked : goal.returns-clause-asked
returns-clause-asked c =
    on_ok_weaker c.add_labels.result (λ h ts.
    h ts
    ∙ ap (λ (ns : List Word). all_asked ts c.args.into.now.items ++ map (of_label (takers_at ts c.args.owner) c.args.owner.number c.args.unit) ns)
    (c.as_slice.ensures ∙ c.in_ok-statements.ensures ts ∙ ap (λ (ns : List Word). ns ++ labels_of (naming_of c.args.draft.now.naming.now) c.args.unit Strong (statements_at ts c.args.body.now)) c.new-names.ensures)
    ∙ ap (λ (b : Bool). all_asked ts c.args.into.now.items ++ cond b [] (map (of_label (takers_at ts c.args.owner) c.args.owner.number c.args.unit) (labels_of (naming_of c.args.draft.now.naming.now) c.args.unit Strong (statements_at ts c.args.body.now)))) (sym c.if-owner.false))
    c.add_labels.ensures.asked
