-- Proves what is asked of `put`.
use Rattle.std.proofs.Common.{◌≡◌, ◌<◌, ◌∙◌, ℕ, arith, length, subst, sym, []}
use Rattle.tla_tree.specs.Tree.{node}
use Rattle.tla_pool.specs.FormOf.{form_of}
use Rattle.tla_tree.specs.Pool.{Entry, at, trees_at, AllBelow, Keeps, grown}
use Rattle.tla_pool.proofs.PoolGrown.{AreShaped-insert, Differ-grown, length-grown, Keeps-insert, AreOlder-insert, put-tree}
use Rattle.tla_pool.proofs.pool.Pool.put.Goals as goal

pub invariant_of-self-2 : goal.invariant_of-self-2
invariant_of-self-2 c = (
  AreOlder-insert c.self.inside.nodes.keys _ (record { form = form_of c.args.form; place = c.args.place; parts = c.args.parts.items }) c.self.invariant.0
      (subst (λ ts. AllBelow (length ts) c.args.parts.items) (sym c.self.view_is) c.requires.below) c.in_ok-id.ensures.keys,
  AreShaped-insert c.self.inside.nodes.keys _ (record { form = form_of c.args.form; place = c.args.place; parts = c.args.parts.items }) c.self.invariant.1 c.requires.shaped c.in_ok-id.ensures.keys,
)

pub returns-clause-kept : goal.returns-clause-kept
returns-clause-kept c = subst (λ ts. Keeps ts (grown [] c.insert_full.new.self.keys)) c.self.view_is (Keeps-insert c.self.inside.nodes.keys _ _ c.in_ok-id.ensures.keys)

pub returns-clause-within : goal.returns-clause-within
returns-clause-within c = omega (arith, length-grown [] c.insert_full.new.self.keys, c.in_ok-id.ensures.within)

pub returns-clause-tree : goal.returns-clause-tree
returns-clause-tree c =
    let ns = c.self.inside.nodes.keys in
    let n : Entry = record { form = form_of c.args.form; place = c.args.place; parts = c.args.parts.items } in
    let below : AllBelow (length (grown [] ns)) n.parts = subst (λ ts. AllBelow (length ts) c.args.parts.items) (sym c.self.view_is) c.requires.below in
    let older = AreOlder-insert ns _ n c.self.invariant.0 below c.in_ok-id.ensures.keys in
    let kept = Keeps-insert ns _ _ c.in_ok-id.ensures.keys in
    let s = c.in_ok-id.ensures.stored in
    subst (λ ts. at (grown [] c.insert_full.new.self.keys) c.in_ok-id.id ≡ node n.form n.place (trees_at ts n.parts)) c.self.view_is
    (put-tree ns _ n s.0 c.in_ok-id.id older below kept c.in_ok-id.ensures.within s.1 s.2)

pub returns-clause-old : goal.returns-clause-old
returns-clause-old c =
    let ns = c.self.inside.nodes.keys in
    let ms = c.insert_full.new.self.keys in
    let n : Entry = record { form = form_of c.args.form; place = c.args.place; parts = c.args.parts.items } in
    let below : AllBelow (length (grown [] ns)) n.parts = subst (λ ts. AllBelow (length ts) c.args.parts.items) (sym c.self.view_is) c.requires.below in
    let older = AreOlder-insert ns ms n c.self.invariant.0 below c.in_ok-id.ensures.keys in
    let kept = Keeps-insert ns ms n c.in_ok-id.ensures.keys in
    let s = c.in_ok-id.ensures.stored in
    let tree = put-tree ns ms n s.0 c.in_ok-id.id older below kept c.in_ok-id.ensures.within s.1 s.2 in
    let within : c.in_ok-id.id < length (grown [] ms) = omega (arith, length-grown [] ms, c.in_ok-id.ensures.within) in
    subst (λ ts. (i : ℕ) → i < length ts → at ts i ≡ node n.form n.place (trees_at ts n.parts) → c.in_ok-id.id ≡ i) c.self.view_is
    (λ i lt e. Differ-grown ms older c.in_ok-id.ensures.unique c.in_ok-id.id i within (omega (arith, lt, kept.longer)) (tree ∙ sym (kept.same i lt ∙ e)))
