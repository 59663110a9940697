-- Proves that labels are added where they are missing.
use Rattle.std.proofs.Common.{◌≡◌, ◌∙◌, ap}
use Rattle.std.proofs.lemmas.Result.{IfOk-weaker}
use Rattle.tla_tree.specs.Tree.{Word}
use Rattle.pcal_tree.specs.declared.algorithm.Algorithm.{Algorithm}
use Rattle.pcal_tree.specs.InMemory.{algorithm_at}
use Rattle.pcal_tree.specs.Labelled.{labelled, with_labels}
use Rattle.pcal_tree.specs.OffencesSteps.{call_effect}
use Rattle.added_labels.proofs.AddLaws.{stays, changes}
use Rattle.added_labels.proofs.add.add_labels.Goals as goal

pub returns-then-not-are_added-clause-tree : goal.returns-then-not-are_added-clause-tree
returns-then-not-are_added-clause-tree c = stays c.args.forced (algorithm_at c.args.pool.now c.args.algorithm) c.are_added.result (c.are_added.ensures c.args.pool.now) c.if-not-are_added.true

pub returns-clause-tree : goal.returns-clause-tree
returns-clause-tree c =
    let a = algorithm_at c.args.pool.now c.args.algorithm in
    IfOk-weaker c.add_labels_of_root.result _ (λ (r : Algorithm). algorithm_at c.args.pool.now r ≡ labelled c.args.forced a) (λ r h.
    h ∙ ap (λ (root : Word). with_labels call_effect root a) c.in_ok-root.ensures
    ∙ changes c.args.forced a c.are_added.result (c.are_added.ensures c.args.pool.now) c.if-not-are_added.false) c.add_labels_of_root.ensures.tree
