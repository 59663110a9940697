-- Proves what is asked of `write_actions`.
use Rattle.std.proofs.Common.{List, ◌++◌, map, refl, append_assoc}
use Rattle.std.specs.Prelude.{codes}
use Rattle.module_write.specs.declared.«module».Action.{Action}
use Rattle.module_tree.specs.Module.{action_unit}
use Rattle.module_tree.specs.Layout.{unit_text}
use Rattle.module_write.specs.InMemory.{action_at, actions_at}
use Rattle.module_lines.specs.Apart.{behind}
use Rattle.tla_write.proofs.OneMore.{listed_more}
use Rattle.module_write.proofs.write_units.write_actions.Goals as goal

pub loop-action-preserved : goal.loop-action-preserved
loop-action-preserved c =
    let ts = c.args.pool.now in
    listed_more (λ (acts : List Action). behind 0 (map action_unit (actions_at ts acts))) (λ (a : Action). codes "\n" ++ unit_text 0 (action_unit (action_at ts a))) (record { none = refl; more = λ x xs. refl })
    c.args.into.now c.loop-action.into c.write_action.new.into c.args.actions.now c.loop-action.action-index c.action-item.result c.action-item.is c.loop-action-test.true c.loop-action.invariant
    (rw (c.in_ok-write_action.ensures, c.in_ok-push.ensures.ok) (append_assoc c.loop-action.into (codes "\n") (unit_text 0 (action_unit (action_at ts c.action-item.result)))))
