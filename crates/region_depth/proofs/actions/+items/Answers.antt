-- Proves what is asked of the calls that look at items.
use Rattle.std.proofs.Common.{◌+◌, List, Vec, Global, sym, ap, ◌∙◌, arith}
use Rattle.tla_tree.proofs.PoolNumbers.{past_at}
use Rattle.module_tree.specs.Module as tree
use Rattle.module_write.specs.declared.«module».Item.{Item}
use Rattle.module_write.specs.InMemory.{item_at, branches_at, past_item, past_items, past_branches}
use Rattle.module_write.proofs.ItemEquations.{either_at, past_either}
use Rattle.region_reading.specs.Nests.{item_nests, branches_nest}
use Rattle.region_depth.specs.Room.{has_room}
use Rattle.region_depth.proofs.Rows.{room_deeper, one_fits, one_too_deep}
use Rattle.region_depth.proofs.Lists.{of_items, items_greatest}
use Rattle.region_depth.proofs.actions.+items.Goals as goal

pub branches_fit-items_fit-requires : goal.branches_fit-items_fit-requires
branches_fit-items_fit-requires t c =
    let one = past_at (λ (b : Vec Item Global). past_items b.items) c.args.branches.now c.loop-branch.branch-index c.branch-item.result c.branch-item.is c.loop-branch-test.true in
    (omega (arith, c.requires.within, c.decreases), (omega (arith, one, ap past_items c.deref.ensures.value, c.requires.there), omega (arith, c.requires.within)))

pub item_fits-branches_fit-requires : goal.item_fits-branches_fit-requires
item_fits-branches_fit-requires t c = (
  omega (arith, c.if-depth-gt-DEEPEST.false, c.decreases),
  (omega (arith, past_either c.in-Either.branches, ap past_branches c.deref-in-Either.ensures.value, ap past_item c.in-Either.is, c.requires.there), omega (arith, c.if-depth-gt-DEEPEST.false)),
)

pub item_fits-returns-in-Either : goal.item_fits-returns-in-Either
item_fits-returns-in-Either t c =
    let ts = c.args.pool.now in
    c.branches_fit.ensures ∙ ap (λ (bs : List (Vec Item Global)). has_room c.args.depth (branches_nest (branches_at ts bs))) c.deref-in-Either.ensures.value
    ∙ ap (λ (i : tree.Item). has_room c.args.depth (item_nests i)) (sym (ap (item_at ts) c.in-Either.is ∙ either_at ts c.in-Either.branches))

pub items_fit-item_fits-requires : goal.items_fit-item_fits-requires
items_fit-item_fits-requires t c =
    let one = past_at past_item c.args.items.now c.loop-item.item-index c.item-item.result c.item-item.is c.loop-item-test.true in
    (omega (arith, c.if-depth-gt-DEEPEST.false, c.decreases), (omega (arith, one, c.requires.there), omega (arith, c.if-depth-gt-DEEPEST.false)))

pub items_fit-returns-then-not-item_fits : goal.items_fit-returns-then-not-item_fits
items_fit-returns-then-not-item_fits t c =
    let ts = c.args.pool.now in
    let d = c.args.depth in
    let i = c.item-item.result in
    one_too_deep (of_items ts) (λ (i : Item). 1 + item_nests (item_at ts i)) (items_greatest ts) d c.args.items.now c.loop-item.item-index i c.item-item.is c.loop-item-test.true
    (sym (room_deeper d (item_nests (item_at ts i))) ∙ sym c.item_fits.ensures ∙ c.if-not-item_fits.true) c.loop-item.invariant

pub items_fit-loop-item-preserved : goal.items_fit-loop-item-preserved
items_fit-loop-item-preserved t c =
    let ts = c.args.pool.now in
    let d = c.args.depth in
    let i = c.item-item.result in
    one_fits (of_items ts) (λ (i : Item). 1 + item_nests (item_at ts i)) (items_greatest ts) d c.args.items.now c.loop-item.item-index i c.item-item.is c.loop-item-test.true
    (sym (room_deeper d (item_nests (item_at ts i))) ∙ sym c.item_fits.ensures ∙ c.if-not-item_fits.false) c.loop-item.invariant
