-- Proves that a branch has UNCHANGED for what others assign.
use Rattle.std.proofs.Common.{List, sym, ap, ◌∙◌, arith}
use Rattle.std.proofs.lemmas.Result.{on_ok_weaker}
use Rattle.tla_tree.specs.Tree.{Word}
use Rattle.module_write.specs.InMemory.{items_at}
use Rattle.name_bits.specs.NamesIn.{names_in}
use Rattle.action_builder.specs.Written.{onto, filled, unchanged_of}
use Rattle.step_forms.proofs.WrittenLaws.{left_filtered}
use Rattle.right_sides.proofs.items.close.Goals as goal

pub fill-requires : goal.fill-requires
fill-requires c = omega (arith, c.in_ok-add_unchanged.ensures.within, c.requires)

pub returns-clause-items : goal.returns-clause-items
returns-clause-items c =
    let ts = c.args.pool.now in
    let order = c.args.order.now in
    let left = c.left_of.ensures.names order c.apart.ensures ∙ sym (left_filtered order (names_in order c.args.all.now) (names_in order c.args.own.now)) in
    on_ok_weaker c.fill.result
    (λ e. e ∙ ap (filled c.args.place) (c.in_ok-add_unchanged.ensures.items ts ∙ ap (λ (xs : List Word). onto (items_at ts c.args.items.now.items) (unchanged_of xs)) left))
    c.fill.ensures.items
