-- Proves that UNCHANGED is added for what is assigned nowhere.
use Rattle.std.proofs.Common.{List, ◌&&◌, not, sym, ap, ◌∙◌}
use Rattle.std.specs.List.{filter}
use Rattle.tla_token.specs.Signs.{is_among}
use Rattle.tla_tree.specs.Tree.{Word}
use Rattle.module_write.specs.InMemory.{items_at}
use Rattle.name_bits.specs.NamesIn.{names_in}
use Rattle.action_builder.specs.Written.{onto, unchanged_of}
use Rattle.step_forms.proofs.WrittenLaws.{left_filtered}
use Rattle.step_items.proofs.ResultLaws.{also_ok}
use Rattle.step_items.proofs.step.leave_others.Goals as goal

pub returns-clause-items : goal.returns-clause-items
returns-clause-items c = λ few.
    let order = c.args.order.now in
    let mine = names_in order c.args.assigned.now in
    let left = c.left_of.ensures.names order c.apart.ensures
    ∙ (λ i. filter (λ (v : Word). is_among (c.all.ensures.names order few i) v && not (is_among mine v)) order)
    ∙ sym (left_filtered order order mine) in
    also_ok c.add_unchanged.result c.add_unchanged.ensures.items (λ h ts. h ts ∙ ap (λ (ws : List Word). onto (items_at ts c.args.items.now.items) (unchanged_of ws)) left)
