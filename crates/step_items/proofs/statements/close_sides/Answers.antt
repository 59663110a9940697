-- Proves that each branch leaves unchanged what the other assigns.
use Rattle.std.proofs.Common.{ap, ◌∙◌}
use Rattle.module_write.proofs.InMemoryGrown.{items_at-kept}
use Rattle.name_bits.specs.NamesIn.{names_in}
use Rattle.action_builder.specs.Written.{branch_items}
use Rattle.step_items.proofs.ResultLaws.{then_ok, also_ok}
use Rattle.step_items.proofs.statements.close_sides.Goals as goal

pub returns-clause-first : goal.returns-clause-first
returns-clause-first c =
    then_ok c.close-2.result (items_at-kept c.close.new.pool c.close-2.new.pool c.close-2.ensures.kept c.close.new.items.items c.in_ok-close.ensures.within ∙ c.in_ok-close.ensures.items)

pub returns-clause-second : goal.returns-clause-second
returns-clause-second c =
    let order = c.args.desk.now.draft.now.order.now in
    also_ok c.close-2.result c.close-2.ensures.items
    (λ h. h ∙ ap (λ is. branch_items order c.args.place is (names_in order c.args.sides.now.first.assigned) (names_in order c.args.sides.now.second.assigned)) (items_at-kept c.args.pool.now c.close.new.pool c.in_ok-close.ensures.kept c.args.no.now.items c.requires.no))
