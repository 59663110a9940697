-- Proves that the set of one more process is united with those before.
use Rattle.std.proofs.Common.{length, ap, ◌∙◌, arith}
use Rattle.tla_tree.specs.declared.op.Op.TheVariants.{Cup}
use Rattle.tla_token.specs.Places.{nowhere}
use Rattle.tla_tree.specs.Tree.{node, no_trees, tree, strict, operator}
use Rattle.tla_tree.specs.Pool.{at}
use Rattle.tla_tree.proofs.PoolNumbers.{Keeps-then, past_at}
use Rattle.pcal_tree.specs.InMemory.{past_process}
use Rattle.pcal_tree.specs.Takers.{takers_of}
use Rattle.action_builder.specs.ProcessSets.{set_of_takers}
use Rattle.module_formulas.proofs.Grown.{process_at-kept}
use Rattle.module_formulas.proofs.RoutineLaws.{union_more, union_done}
use Rattle.module_formulas.proofs.process_sets.union_with.Goals as goal

pub set_of-requires : goal.set_of-requires
set_of-requires c =
    let past = past_at past_process c.args.list.now c.loop-process.process-index c.process-item.result c.process-item.is c.loop-process-test.true in
    c.taker_of.ensures.within (length c.loop-process.pool) (omega (arith, past, c.requires.there, c.loop-process.invariant.0.longer))

pub loop-process-preserved : goal.loop-process-preserved
loop-process-preserved c =
    let ts = c.args.pool.now in
    let now = c.loop-process.pool in
    let kept = c.loop-process.invariant.0 in
    let members = c.in_ok-members.ensures in
    let cup = c.in_ok-all.ensures in
    let p = c.process-item.result in
    let past = past_at past_process c.args.list.now c.loop-process.process-index p c.process-item.is c.loop-process-test.true in (
      Keeps-then _ _ _ (Keeps-then _ _ _ kept members.kept) cup.kept,
      cup.within,
      union_more ts c.args.list.now c.loop-process.process-index p c.process-item.is c.loop-process-test.true (at now c.loop-process.all) _ _
          (cup.tree
          ∙ (λ j. node (strict (operator Cup)) nowhere
          (tree (members.kept.same c.loop-process.all c.loop-process.invariant.1 j)
          (tree ((members.tree ∙ ap set_of_takers (c.taker_of.ensures.stands now ∙ ap takers_of (process_at-kept ts now kept p (omega (arith, past, c.requires.there))))) j) no_trees))))
          c.loop-process.invariant.2,
    )

pub returns-clause-tree : goal.returns-clause-tree
returns-clause-tree c = union_done c.args.pool.now c.args.list.now c.loop-process.process-index (at c.loop-process.pool c.loop-process.all) _ c.loop-process-test.false c.loop-process.invariant.2
