-- Proves what is asked of `write_item`, `write_items` and `write_branches`.
use Rattle.std.proofs.Common.{◌+◌, List, ◌++◌, Vec, Global, refl, ap, arith, append_assoc, append-nil}
use Rattle.std.specs.Prelude.{codes}
use Rattle.module_write.specs.declared.«module».Item.{Item}
use Rattle.module_tree.specs.Layout.{line, item_text, items_text, branches_text}
use Rattle.module_write.specs.InMemory.{item_at, items_at, branches_at, past_item, past_items, past_branches}
use Rattle.module_write.proofs.ItemEquations.{exists_at, local_at, choice_at, either_at, past_either}
use Rattle.module_write.proofs.Heights.{height, heights, branch_heights, either_height}
use Rattle.tla_tree.proofs.PoolNumbers.{past_at}
use Rattle.tla_write.proofs.OneMore.{listed_more}
use Rattle.module_write.proofs.write_action.+write.Goals as goal

pub write_branches-write_items-requires : goal.write_branches-write_items-requires
write_branches-write_items-requires t c =
    let bs = c.args.branches.now in
    let b = c.branch-item.result in
    let one = past_at (λ (b : Vec Item Global). past_items b.items) bs c.loop-branch.branch-index b c.branch-item.is c.loop-branch-test.true in
    let less = past_at (λ (b : Vec Item Global). heights b.items) bs c.loop-branch.branch-index b c.branch-item.is c.loop-branch-test.true in
    (omega (arith, less, ap heights c.deref.ensures.value, c.decreases), omega (arith, one, ap past_items c.deref.ensures.value, c.requires))

pub write_branches-loop-branch-preserved : goal.write_branches-loop-branch-preserved
write_branches-loop-branch-preserved t c =
    let ts = c.args.pool.now in
    let k = c.args.k in
    listed_more (λ (bs : List (Vec Item Global)). branches_text k (branches_at ts bs)) (λ (b : Vec Item Global). line (k + 5) (codes "\\/") ++ items_text (k + 10) (items_at ts b.items)) (record { none = refl; more = λ x xs. refl })
    c.args.into.now c.loop-branch.into c.write_items.new.into c.args.branches.now c.loop-branch.branch-index c.branch-item.result c.branch-item.is c.loop-branch-test.true c.loop-branch.invariant
    (rw (c.in_ok-write_items.ensures, c.in_ok-write_line.ensures, c.deref.ensures.value, c.in_ok-deeper-2.ensures, c.in_ok-deeper.ensures) (simp append_assoc))

pub write_item-write_branches-requires : goal.write_item-write_branches-requires
write_item-write_branches-requires t c =
    let items = c.deref-in-Either.ensures.value in (
      omega (arith, either_height c.in-Either.branches, ap branch_heights items, ap height c.in-Either.is, c.decreases),
      omega (arith, past_either c.in-Either.branches, ap past_branches items, ap past_item c.in-Either.is, c.requires),
    )

pub write_item-returns-in_ok-write_items-in-Exists : goal.write_item-returns-in_ok-write_items-in-Exists
write_item-returns-in_ok-write_items-in-Exists t c =
    rw (c.in-Exists.is, exists_at, c.in_ok-write_items-in-Exists.ensures, c.in_ok-write_exists-in-Exists.ensures, c.deref.ensures.value, c.in_ok-deeper-in-Exists.ensures) (simp (append_assoc, append-nil))

pub write_item-returns-in_ok-write_items-in-Local : goal.write_item-returns-in_ok-write_items-in-Local
write_item-returns-in_ok-write_items-in-Local t c =
    rw (c.in-Local.is, local_at, c.in_ok-write_items-in-Local.ensures, c.in_ok-write_local-in-Local.ensures, c.deref-in-Local.ensures.value, c.in_ok-deeper-in-Local.ensures) (simp (append_assoc, append-nil))

pub write_item-returns-in_ok-write_items-in-Choice-2 : goal.write_item-returns-in_ok-write_items-in-Choice-2
write_item-returns-in_ok-write_items-in-Choice-2 t c =
    rw (c.in-Choice.is, choice_at, c.in_ok-write_items-in-Choice-2.ensures, c.in_ok-write_line-in-Choice-2.ensures, c.in_ok-write_items-in-Choice.ensures, c.in_ok-write_line-in-Choice.ensures, c.in_ok-write_if-in-Choice.ensures, c.deref-in-Choice.ensures.value, c.deref-in-Choice-2.ensures.value, c.in_ok-deeper-in-Choice.ensures, c.in_ok-deeper-in-Choice-2.ensures, c.in_ok-deeper-in-Choice-3.ensures, c.in_ok-deeper-in-Choice-4.ensures)
    (simp append_assoc)

pub write_item-returns-in_ok-write_branches-in-Either : goal.write_item-returns-in_ok-write_branches-in-Either
write_item-returns-in_ok-write_branches-in-Either t c =
    rw (c.in-Either.is, either_at, c.in_ok-write_branches-in-Either.ensures, c.in_ok-write_line-in-Either.ensures, c.deref-in-Either.ensures.value) (simp append_assoc)

pub write_items-write_item-requires : goal.write_items-write_item-requires
write_items-write_item-requires t c =
    let is = c.args.items.now in
    let i = c.item-item.result in
    let one = past_at past_item is c.loop-item.item-index i c.item-item.is c.loop-item-test.true in
    let less = past_at height is c.loop-item.item-index i c.item-item.is c.loop-item-test.true in
    (omega (arith, less, c.decreases), omega (arith, one, c.requires))

pub write_items-loop-item-preserved : goal.write_items-loop-item-preserved
write_items-loop-item-preserved t c =
    let ts = c.args.pool.now in
    let k = c.args.k in
    listed_more (λ (is : List Item). items_text k (items_at ts is)) (λ (i : Item). item_text k (item_at ts i)) (record { none = refl; more = λ x xs. refl })
    c.args.into.now c.loop-item.into c.write_item.new.into c.args.items.now c.loop-item.item-index c.item-item.result c.item-item.is c.loop-item-test.true c.loop-item.invariant c.in_ok-write_item.ensures
