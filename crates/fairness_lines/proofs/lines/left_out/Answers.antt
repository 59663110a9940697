-- Proves that the labels of a routine are left out by their marks.
use Rattle.std.proofs.Common.{◌++◌, List, ap, ◌∙◌}
use Rattle.std.proofs.lemmas.Result.{IfOk-weaker}
use Rattle.tla_tree.specs.Tree.{Word}
use Rattle.pcal_tree.specs.InMemory.{statements_at}
use Rattle.written_names.specs.Units.{naming_of}
use Rattle.fairness.specs.FairnessLines.{guard_of}
use Rattle.marked_labels.specs.declared.labels.Wanted.TheVariants.{LeftOut}
use Rattle.marked_labels.specs.Wanted.{labels_of}
use Rattle.fairness_lines.specs.DemandsAt.{takers_at}
use Rattle.fairness_lines.proofs.lines.left_out.Goals as goal

pub returns-clause-guard : goal.returns-clause-guard
returns-clause-guard c =
    IfOk-weaker c.guard.result _ _ (λ r h ts.
    h ∙ ap (λ (ns : List Word). guard_of (takers_at c.args.pool.now c.args.owner) ns)
    (c.as_slice.ensures ∙ c.in_ok-statements.ensures ts ∙ ap (λ (ns : List Word). ns ++ labels_of (naming_of c.args.draft.now.naming.now) c.args.unit LeftOut (statements_at ts c.args.body.now)) c.new-names.ensures))
    c.guard.ensures.guard
