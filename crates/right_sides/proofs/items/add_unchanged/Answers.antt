-- Proves that UNCHANGED is added where it has a name.
use Rattle.std.proofs.Common.{List, sym, ap, ◌∙◌, arith}
use Rattle.tla_tree.specs.Tree.{Word}
use Rattle.module_tree.specs.Module.{no_items, item}
use Rattle.module_write.specs.declared.«module».Item.TheVariants.{Unchanged}
use Rattle.module_write.specs.InMemory.{items_at, past_item, past_items}
use Rattle.module_write.proofs.ItemEquations.{unchanged_at, past_unchanged}
use Rattle.pcal_tree.proofs.InMemoryEach.{past_one_more}
use Rattle.action_builder.specs.Written.{onto, unchanged_of}
use Rattle.step_forms.proofs.WrittenLaws.{onto_none}
use Rattle.right_sides.proofs.AfterLaws.{items_last}
use Rattle.right_sides.proofs.ItemLaws.{unchanged_some, unchanged_none}
use Rattle.right_sides.proofs.items.add_unchanged.Goals as goal

pub returns-in_ok-push-clause-items : goal.returns-in_ok-push-clause-items
returns-in_ok-push-clause-items c = λ ts.
    let xs = c.in_ok-names.names in
    ap (items_at ts) c.in_ok-push.ensures.items
    ∙ items_last ts c.args.items.now.items (Unchanged xs)
    ∙ ap (onto (items_at ts c.args.items.now.items)) (ap (λ i. item i no_items) (unchanged_at ts xs) ∙ sym (unchanged_some xs (omega (arith, c.if-len-gt0.true, c.len.ensures))))
    ∙ ap (λ (ys : List Word). onto (items_at ts c.args.items.now.items) (unchanged_of ys)) c.in_ok-names.ensures

pub returns-in_ok-push-clause-within : goal.returns-in_ok-push-clause-within
returns-in_ok-push-clause-within c =
    let all = ap past_items c.in_ok-push.ensures.items in
    omega (arith, all, past_one_more past_item c.args.items.now.items (Unchanged c.in_ok-names.names), past_unchanged c.in_ok-names.names)

pub returns-else-len-gt0-clause-items : goal.returns-else-len-gt0-clause-items
returns-else-len-gt0-clause-items c = λ ts.
    let none = unchanged_none c.in_ok-names.names (omega (arith, c.if-len-gt0.false, c.len.ensures)) in
    sym (onto_none (items_at ts c.args.items.now.items))
    ∙ ap (onto (items_at ts c.args.items.now.items)) (sym none ∙ ap unchanged_of c.in_ok-names.ensures)
