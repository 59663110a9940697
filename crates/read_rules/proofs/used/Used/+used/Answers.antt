-- Proves what is asked of the functions that go through an expression.
use Rattle.std.proofs.Common.{ℕ, List, length, take, slice_index_or, sym, ap, ◌∙◌, subst, refl, arith}
use Rattle.std.proofs.lemmas.List.{get_or_default}
use Rattle.tla_tree.specs.Tree.{Form, seen_names}
use Rattle.tla_tree.specs.Pool.{Entry, AllBelow, trees_at}
use Rattle.tla_tree.specs.Shapes.{Shaped}
use Rattle.tla_tree.proofs.PoolNumbers.{AllBelow-at}
use Rattle.tla_pool.specs.FormOf.{form_of}
use Rattle.pcal_tree.specs.Reads.{used_by_parts}
use Rattle.read_rules.specs.Using.{own_names, Adds, AddsParts}
use Rattle.read_rules.proofs.UsedLaws.{parts_start, parts_more, parts_cut, parts_done, node_met}
use Rattle.read_rules.proofs.used.Used.+used.Goals as goal

pub expr-parts-requires : goal.expr-parts-requires
expr-parts-requires t c =
    let n = c.in-Some.node.now in
    let parts = c.deref.ensures.value ∙ ap (λ (n : Entry). n.parts) c.node.view_is in (
      omega (arith, c.decreases),
      (
        subst (λ (ids : List ℕ). AllBelow c.args.e ids) (sym parts) c.in-Some.ensures.older,
        subst (λ (k : ℕ). Shaped (form_of c.node.inside.form) k) (ap (λ (is : List ℕ). length is) (sym parts)) (subst (λ (m : Form). Shaped m (length n.parts)) (sym (ap (λ (n : Entry). n.form) c.node.view_is)) c.in-Some.ensures.shaped),
      ),
    )

pub expr-returns : goal.expr-returns
expr-returns t c =
    let n = c.in-Some.node.now in
    let f = ap (λ (n : Entry). n.form) c.node.view_is in
    let parts = c.deref.ensures.value ∙ ap (λ (n : Entry). n.parts) c.node.view_is in
    node_met c.args.self.now c.form.new.self c.parts.new.self _ n c.args.pool.now c.args.e c.in-Some.ensures.some c.in-Some.ensures.shaped
    (subst (λ (k : Entry). Adds c.args.self.now c.form.new.self (own_names k.form k.place)) c.node.view_is c.in_ok-form.ensures)
    (subst (λ (m : Form). AddsParts c.form.new.self c.parts.new.self (used_by_parts (seen_names m) (trees_at c.args.pool.now n.parts))) f
    (subst (λ (ids : List ℕ). AddsParts c.form.new.self c.parts.new.self (used_by_parts (seen_names (form_of c.node.inside.form)) (trees_at c.args.pool.now ids))) parts c.in_ok-parts.ensures))
    refl refl (c.truncate.ensures ∙ ap (λ (k : ℕ). take k c.parts.new.self.bound) c.len-around.ensures)

pub parts-loop-i-init : goal.parts-loop-i-init
parts-loop-i-init t c = parts_start c.args.self.now (form_of c.args.form.now) c.args.pool.now c.args.parts.now

pub parts-expr-requires : goal.parts-expr-requires
parts-expr-requires t c =
    let below = AllBelow-at c.args.past c.args.parts.now c.loop-i.i 0 c.requires.there c.loop-i-test.true in
    omega (arith, below, c.decreases)

pub parts-loop-i-preserved : goal.parts-loop-i-preserved
parts-loop-i-preserved t c =
    let e = slice_index_or c.args.parts.now c.loop-i.i 0 in
    parts_more c.args.self.now c.loop-i.self c.expr.new.self _ (form_of c.args.form.now) c.args.pool.now c.args.parts.now c.loop-i.i e (get_or_default c.args.parts.now c.loop-i.i 0 e c.loop-i-test.true) c.loop-i-test.true
    c.requires.shaped c.in_ok-expr.ensures refl refl c.in_ok-add_next.ensures c.loop-i.invariant

pub parts-returns : goal.parts-returns
parts-returns t c = parts_done c.args.self.now c.loop-i.self (form_of c.args.form.now) c.args.pool.now c.args.parts.now c.loop-i.i c.loop-i-test.false c.loop-i.invariant

pub parts-returns-then-ends_in_literal : goal.parts-returns-then-ends_in_literal
parts-returns-then-ends_in_literal t c =
    let e = slice_index_or c.args.parts.now c.loop-i.i 0 in
    parts_cut c.args.self.now c.loop-i.self c.expr.new.self (form_of c.args.form.now) c.args.pool.now c.args.parts.now c.loop-i.i e (get_or_default c.args.parts.now c.loop-i.i 0 e c.loop-i-test.true) c.loop-i-test.true
    c.requires.shaped c.in_ok-expr.ensures (c.ends_in_literal.ensures.0 c.if-ends_in_literal.true).1 c.loop-i.invariant
