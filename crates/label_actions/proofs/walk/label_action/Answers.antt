-- Proves that the action of a label is that of the step from it.
use Rattle.std.proofs.Common.{ap, ◌∙◌}
use Rattle.module_tree.specs.Module.{all_of}
use Rattle.action_builder.specs.LabelActions.{parameter_of}
use Rattle.step_forms.specs.Steps.{step_items}
use Rattle.label_actions.specs.Added.{self_of}
use Rattle.label_actions.specs.Fitting.{step_from}
use Rattle.label_actions.proofs.Grown.{by_self}
use Rattle.label_actions.proofs.walk.label_action.Goals as goal

pub returns-clause-made : goal.returns-clause-made
returns-clause-made c = λ P t w fits.
    let ts = c.args.pool.now in
    let s = step_from ts c.args.label.now c.args.exit.now c.args.rest.now in
    let title = c.in_ok-title.ensures ∙ c.label_name.ensures P t.routine w.desk.draft.naming w.desk.number in
    let parameter = c.in_ok-parameter.ensures ts ∙ ap parameter_of w.takers in
    let items = c.in_ok-items.ensures.made P t.routine (self_of t.takers) w.desk fits ∙ by_self t.takers (step_items P t.routine s) in
    λ j. record { title = title j; parameter = parameter j; body = all_of (items j) }
