-- Proves what is asked of `over_made_parts`.
use Rattle.std.proofs.Common.{ℕ, List, [], length, ap, sym, ◌∙◌, subst, get_or, refl, arith}
use Rattle.std.specs.Option.{IsSome}
use Rattle.tla_tree.specs.Tree.{node, graft}
use Rattle.tla_tree.specs.Pool.{Entry, trees_at, tree_in}
use Rattle.tla_pool.specs.FormOf.{form_of}
use Rattle.tla_pool.specs.Done.{AreDone}
use Rattle.std.proofs.lemmas.Result.{IfOk-weaker}
use Rattle.tla_pool.proofs.DoneLemmas.{AreMade-found}
use Rattle.tla_pool.proofs.VisitLemmas.{AreDone-at}
use Rattle.tla_pool.proofs.PoolGrown.{Keeps-same}
use Rattle.tla_tree.proofs.PoolNumbers.{Have, Have-next, Have-length, grafted-done}
use Rattle.tla_tree.specs.Shapes.{Shaped}
use Rattle.tla_pool.proofs.graft.over_made_parts.Goals as goal

pub unwrap-requires : goal.unwrap-requires
unwrap-requires g c =
    let parts = subst (λ (n : Entry). AreDone c.args.done.now n.parts) (sym c.node.view_is) c.requires.parts in
    let done = AreDone-at c.args.done.now c.deref-part-items.result.now c.loop-part.part-index 0 (subst (AreDone c.args.done.now) (sym c.deref-part-items.ensures.value) parts) c.loop-part-test.true in
    subst IsSome (sym (c.get.ensures ∙ done.1)) refl

pub loop-part-preserved : goal.loop-part-preserved
loop-part-preserved g c =
    let old = c.args.pool.now in
    let items = c.deref-part-items.result.now in
    let k = c.loop-part.part-index in
    let made = c.unwrap.result in
    let kept = c.in_ok-whole.ensures.kept in
    let m = AreMade-found (g.G.Grafting.graft c.args.g.now old) old c.args.done.now (get_or items k 0) made c.requires.made (sym c.get.ensures ∙ c.unwrap.ensures) in
    (c.loop-part.invariant.0, rw c.in_ok-push.ensures.items (Have-next (graft (g.G.Grafting.graft c.args.g.now old)) old _ _ _ items k made 0 (Keeps-same _) c.loop-part.invariant.1 c.loop-part-test.true (omega (arith, m.1, kept.longer)) (kept.same made m.1 ∙ m.2)))

pub returns-clause-tree : goal.returns-clause-tree
returns-clause-tree g c =
    let whole = ap (tree_in c.args.pool.now) (sym c.node.view_is) ∙ ap (λ (js : List ℕ). node (form_of c.node.inside.form) c.node.inside.place (trees_at c.args.pool.now js)) (sym c.deref-part-items.ensures.value) in
    let plain = rw c.in_default.is at c.in_ok-whole.ensures.tree in
    IfOk-weaker c.put.result _ _ (λ id h. h ∙ ap (λ f. node f c.node.inside.place (trees_at c.instead.new.pool c.loop-part.others.items)) c.loop-part.invariant.0 ∙ grafted-done (g.G.Grafting.graft c.args.g.now c.args.pool.now) _ _ _ _ _ _ _ c.loop-part.part-index whole plain c.loop-part.invariant.1 c.loop-part-test.false) c.put.ensures.tree

pub put-requires-clause-shaped : goal.put-requires-clause-shaped
put-requires-clause-shaped g c =
    let first = subst (λ (n : Entry). Shaped n.form (length n.parts)) (sym c.node.view_is) c.requires.shaped in
    let same = subst (λ (js : List ℕ). Shaped (form_of c.node.inside.form) (length js)) (sym c.deref-part-items.ensures.value) first in
    let as_many = Have-length (graft (g.G.Grafting.graft c.args.g.now c.args.pool.now)) c.args.pool.now _ c.loop-part.others.items c.deref-part-items.result.now c.loop-part.part-index c.loop-part.invariant.1 c.loop-part-test.false in
    subst (λ m. Shaped m (length c.loop-part.others.items)) (sym c.loop-part.invariant.0) (subst (Shaped (form_of c.node.inside.form)) as_many same)

pub loop-part-init : goal.loop-part-init
loop-part-init g c = (refl, subst (λ is. Have c.instead.new.pool is []) (sym c.new-others.ensures.items) (record { below = tt; trees = refl }))
