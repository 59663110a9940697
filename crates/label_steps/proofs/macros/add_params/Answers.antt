-- Proves that parameters are there too.
use Rattle.std.proofs.Common.{ap, ◌∙◌}
use Rattle.tla_tree.specs.Tree.{Word}
use Rattle.indexmap.specs.IndexSet.{insert_key}
use Rattle.algorithm_limits.proofs.Tables.{equal}
use Rattle.label_steps.proofs.LearnLaws.{params_more}
use Rattle.label_steps.proofs.macros.add_params.Goals as goal

pub loop-one-preserved : goal.loop-one-preserved
loop-one-preserved c =
    params_more c.args.set.now.keys c.loop-one.set.keys c.insert.new.self.keys c.args.params.now c.loop-one.one-index c.one-item.result c.one-item.is c.loop-one-test.true c.loop-one.invariant
    (c.in_ok-insert.ensures.keys ∙ ap (λ (x : Word). insert_key equal c.loop-one.set.keys x) c.in_ok-name_of.ensures)
