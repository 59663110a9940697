-- Proves what is asked of the function that goes through a left side.
use Rattle.std.proofs.Common.{ℕ, ◌≤◌, ◌<◌, List, length, drop, slice_index_or, sym, ap, ◌∙◌, subst, arith}
use Rattle.std.proofs.lemmas.List.{get_or_default}
use Rattle.tla_tree.specs.Pool.{Entry, at, trees_at, AllBelow}
use Rattle.tla_tree.proofs.PoolNumbers.{AllBelow-at}
use Rattle.pcal_tree.specs.OffencesNames.{root_offences, in_each, in_left}
use Rattle.name_rules.specs.Finding.{Tells}
use Rattle.name_rules.proofs.TreeLaws.{left_alone, left_with}
use Rattle.name_rules.proofs.found.Found.+lefts.Goals as goal

pub returns-in_ok-exprs : goal.returns-in_ok-exprs
returns-in_ok-exprs t c =
    let n = c.in-Some.node.now in
    let parts = c.deref-parts.ensures.value ∙ ap (λ (n : Entry). n.parts) c.node.view_is in
    let some = subst (λ (is : List ℕ). 0 < length is) parts c.if-parts-gt0.true in
    let d = slice_index_or n.parts 0 0 in
    left_with c.args.self.now c.root.new.self c.left.new.self c.exprs.new.self n c.args.pool.now c.args.e d c.in-Some.ensures.some some (get_or_default n.parts 0 0 d some)
    (subst (λ (k : Entry). Tells c.args.self.now c.root.new.self (λ r. root_offences r k.form k.place)) c.node.view_is c.in_ok-root.ensures)
    (subst (λ (is : List ℕ). Tells c.root.new.self c.left.new.self (in_left (at c.args.pool.now (slice_index_or is 0 0)))) parts c.in_ok-left.ensures)
    (subst (λ (is : List ℕ). Tells c.left.new.self c.exprs.new.self (in_each (trees_at c.args.pool.now (drop 1 is)))) parts c.in_ok-exprs.ensures)

pub returns-else-parts-gt0 : goal.returns-else-parts-gt0
returns-else-parts-gt0 t c =
    left_alone c.args.self.now c.root.new.self c.in-Some.node.now c.args.pool.now c.args.e c.in-Some.ensures.some
    (subst (λ (is : List ℕ). length is ≤ 0) (c.deref-parts.ensures.value ∙ ap (λ (n : Entry). n.parts) c.node.view_is) c.if-parts-gt0.false)
    (subst (λ (k : Entry). Tells c.args.self.now c.root.new.self (λ r. root_offences r k.form k.place)) c.node.view_is c.in_ok-root.ensures)

pub left-requires : goal.left-requires
left-requires t c =
    let parts = c.deref-parts.ensures.value ∙ ap (λ (n : Entry). n.parts) c.node.view_is in
    let below = AllBelow-at c.args.e c.deref-parts.result.now 0 0 (subst (λ (is : List ℕ). AllBelow c.args.e is) (sym parts) c.in-Some.ensures.older) c.if-parts-gt0.true in
    omega (arith, below, c.decreases)
