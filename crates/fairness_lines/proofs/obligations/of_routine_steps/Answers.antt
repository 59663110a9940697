-- Proves that the obligation has the labels that aren't left out.
use Rattle.std.proofs.Common.{◌++◌, List, Some, ap, ◌∙◌}
use Rattle.tla_tree.specs.Tree.{Word}
use Rattle.pcal_tree.specs.InMemory.{statements_at}
use Rattle.written_names.specs.Units.{naming_of}
use Rattle.fairness.specs.Obligations.{Obligation}
use Rattle.marked_labels.specs.declared.labels.Wanted.TheVariants.{Kept}
use Rattle.marked_labels.specs.Wanted.{labels_of}
use Rattle.fairness_lines.proofs.obligations.of_routine_steps.Goals as goal

pub returns : goal.returns
returns c = λ ts every.
    ap {B = Obligation} (λ (ls : List Word). record { strong = c.args.owner.strong; process = Some c.args.owner.number; labels = ls })
    (c.in_ok-statements.ensures ts ∙ ap (λ (ls : List Word). ls ++ labels_of (naming_of c.args.draft.now.naming.now) c.args.unit Kept (statements_at ts c.args.body.now)) c.new-labels.ensures)
