-- Proves that the table has the last of all actions.
use Rattle.std.proofs.Common.{◌+◌, sym, ap, ◌∙◌}
use Rattle.tla_tree.specs.Tree.{Word}
use Rattle.algorithm_limits.specs.Numbers.{with_number}
use Rattle.module_write.specs.declared.«module».Action.{Action}
use Rattle.action_truth.proofs.TitleLaws.{table_next}
use Rattle.action_truth.proofs.asked.titles.Goals as goal

pub loop-i-preserved : goal.loop-i-preserved
loop-i-preserved c = λ x.
    table_next c.args.actions.now c.loop-i.table c.set.new.self c.loop-i.i c.index-actions-i.result c.index-actions-i.is c.loop-i-test.true
    (c.in_ok-set.ensures ∙ ap (λ (w : Word). with_number c.loop-i.table w (c.loop-i.i + 1)) c.in_ok-title.ensures ∙ ap (λ (a : Action). with_number c.loop-i.table a.title (c.loop-i.i + 1)) (sym c.index-actions-i.is))
    c.loop-i.invariant x
