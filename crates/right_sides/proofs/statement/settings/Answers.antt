-- Proves that the settings of a statement are those of its groups.
use Rattle.std.proofs.Common.{ap, ◌∙◌}
use Rattle.std.proofs.lemmas.Result.{on_ok_weaker, IfOk-weaker}
use Rattle.tla_token.specs.Signs.{is_among}
use Rattle.tla_tree.specs.Pool.{at}
use Rattle.module_tree.specs.Module.{Items}
use Rattle.module_write.specs.InMemory.{items_at}
use Rattle.name_bits.specs.NamesIn.{names_in}
use Rattle.pcal_tree.specs.InMemory.{assignments_at}
use Rattle.action_builder.specs.Written.{onto}
use Rattle.right_sides.specs.After.{after_items}
use Rattle.right_sides.specs.Settings.{IsWhole}
use Rattle.right_sides.proofs.StatementLaws.{statement_settings, statement_names, set_whole, whole_known, whole_names}
use Rattle.right_sides.proofs.statement.settings.Goals as goal

pub returns-clause-items : goal.returns-clause-items
returns-clause-items c = λ left parts.
    let ts = c.args.pool.now in
    let A = is_among (names_in c.args.order.now c.args.assigned.now) in
    let are = statement_settings ts c.in_ok-groups.groups.entries (assignments_at ts c.args.assignments.now) c.in_ok-groups.ensures.groups (is_among c.args.order.now) A left parts in
    c.in_ok-group_settings.ensures.items are.0 ∙ ap (λ (is : Items). onto (items_at ts c.args.out.now.items) (after_items ts c.args.after.now is)) are.1

pub returns-clause-names : goal.returns-clause-names
returns-clause-names c = λ left few.
    let ts = c.args.pool.now in
    statement_names ts c.in_ok-groups.groups.entries (assignments_at ts c.args.assignments.now) c.in_ok-groups.ensures.groups c.args.order.now c.variables.result c.variables.ensures left few

pub returns-in-Some-clause-items : goal.returns-in-Some-clause-items
returns-in-Some-clause-items c = λ left parts.
    let ts = c.args.pool.now in
    let A = is_among (names_in c.args.order.now c.args.assigned.now) in
    let whole : IsWhole c.in-Some.name (at ts c.in-Some.right) (assignments_at ts c.args.assignments.now) = rw c.in-Some.is at c.in_ok-name.ensures.whole in
    on_ok_weaker c.whole_setting.result
    (λ h. h ∙ ap (λ (is : Items). onto (items_at ts c.args.out.now.items) (after_items ts c.args.after.now is)) (set_whole A c.in-Some.name (at ts c.in-Some.right) (assignments_at ts c.args.assignments.now) whole))
    c.whole_setting.ensures.items

pub returns-in-Some-clause-names : goal.returns-in-Some-clause-names
returns-in-Some-clause-names c = λ left few.
    let ts = c.args.pool.now in
    let ms = assignments_at ts c.args.assignments.now in
    let whole : IsWhole c.in-Some.name (at ts c.in-Some.right) ms = rw c.in-Some.is at c.in_ok-name.ensures.whole in
    let known = whole_known (is_among c.args.order.now) c.in-Some.name (at ts c.in-Some.right) ms whole left in
    IfOk-weaker c.whole_setting.result _ _ (λ r h x. h x ∙ whole_names c.in-Some.name (at ts c.in-Some.right) ms whole x) (c.whole_setting.ensures.names few known)
