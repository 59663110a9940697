-- Proves that the algorithm stays what it was as the pool grows.
use Rattle.std.proofs.Common.{ap, ◌∙◌}
use Rattle.pcal_tree.specs.Labelled.{labelled}
use Rattle.pcal_tree.proofs.InMemoryGrown.{algorithm_at-kept}
use Rattle.checking.proofs.check.with_labels.Goals as goal

pub returns-clause-algorithm : goal.returns-clause-algorithm
returns-clause-algorithm c =
    c.in_ok-algorithm.ensures.tree ∙ ap (labelled c.args.forced) (algorithm_at-kept c.args.pool.now c.read_outside.new.pool c.read_outside.ensures.kept c.args.read c.requires.past)
