-- Proves that labels with a root are added where they are missing.
use Rattle.std.proofs.Common.{◌≡◌}
use Rattle.std.proofs.lemmas.Result.{IfOk-weaker}
use Rattle.pcal_tree.specs.declared.algorithm.Algorithm.{Algorithm}
use Rattle.pcal_tree.specs.InMemory.{algorithm_at}
use Rattle.pcal_tree.specs.Labelled.{with_labels}
use Rattle.pcal_tree.specs.OffencesSteps.{call_effect}
use Rattle.added_labels.proofs.AddLaws.{known_as}
use Rattle.added_labels.proofs.add.add_labels_of_root.Goals as goal

pub returns-clause-tree : goal.returns-clause-tree
returns-clause-tree c =
    IfOk-weaker c.with_routines.result _ (λ (r : Algorithm). algorithm_at c.args.pool.now r ≡ with_labels call_effect c.args.root (algorithm_at c.args.pool.now c.args.algorithm)) (λ r h.
    h c.args.root (algorithm_at c.args.pool.now c.args.algorithm) c.in_ok-plan.ensures.begun
    (known_as c.args.pool.now c.deref.result.now c.in_ok-plan.begun.macros.items c.in_ok-known.known c.deref.ensures.value c.in_ok-known.ensures)) c.with_routines.ensures.with
