-- Proves that an argument begins with what its first part begins with, if it has a subscript or a field.
use Rattle.std.proofs.Common.{ℕ, List, Option, None, length, nat_lt, ◌&&◌, slice_index_or, ltb-true, arith, sym, ap, subst, ◌∙◌}
use Rattle.std.proofs.lemmas.Bool.{and_parts}
use Rattle.std.proofs.lemmas.Result.{on_ok_weaker}
use Rattle.tla_tree.specs.Tree.{Word}
use Rattle.tla_tree.specs.Pool.{Entry, at, AllBelow}
use Rattle.tla_tree.proofs.PoolNumbers.{AllBelow-at}
use Rattle.pcal_tree.specs.Paths.{root, root_form}
use Rattle.tla_pool.specs.FormOf.{form_of}
use Rattle.name_rules.specs.Calling.{is_subscripted, handed_from}
use Rattle.name_rules.specs.Finding.{Tells}
use Rattle.name_rules.proofs.CallLaws.{deeper_root, flat_root}
use Rattle.name_rules.proofs.found.Found.+handed.Goals as goal

pub returns-then-is_subscripted : goal.returns-then-is_subscripted
returns-then-is_subscripted t c =
    let n = c.in-Some.node.now in
    let f = ap (λ (n : Entry). n.form) c.node.view_is in
    let parts = c.deref-parts.ensures.value ∙ ap (λ (n : Entry). n.parts) c.node.view_is in
    on_ok_weaker c.handed.result
    (λ a.
    subst (λ (o : Option Word). Tells c.args.self.now c.handed.new.self (handed_from o c.args.place))
    (ap (λ (is : List ℕ). root (at c.args.pool.now (slice_index_or is 0 0))) parts
    ∙ deeper_root n c.args.pool.now c.args.e c.in-Some.ensures.some (sym (λ i. is_subscripted (f i) && nat_lt 0 (length (parts i))) ∙ sym c.is_subscripted.ensures ∙ c.if-is_subscripted.true)) a)
    c.handed.ensures

pub returns : goal.returns
returns t c =
    let n = c.in-Some.node.now in
    let f = ap (λ (n : Entry). n.form) c.node.view_is in
    let parts = c.deref-parts.ensures.value ∙ ap (λ (n : Entry). n.parts) c.node.view_is in
    on_ok_weaker c.handed_form.result
    (λ a.
    subst (λ (o : Option Word). Tells c.args.self.now c.handed_form.new.self (handed_from o c.args.place))
    (ap (λ (n : Entry). root_form n.form None) c.node.view_is
    ∙ flat_root n c.args.pool.now c.args.e c.in-Some.ensures.some (sym (λ i. is_subscripted (f i) && nat_lt 0 (length (parts i))) ∙ sym c.is_subscripted.ensures ∙ c.if-is_subscripted.false)) a)
    c.handed_form.ensures

pub handed-requires : goal.handed-requires
handed-requires t c =
    let parts = c.deref-parts.ensures.value ∙ ap (λ (n : Entry). n.parts) c.node.view_is in
    let some = and_parts (is_subscripted (form_of c.node.inside.form)) (nat_lt 0 (length c.deref-parts.result.now)) (sym c.is_subscripted.ensures ∙ c.if-is_subscripted.true) in
    let below = AllBelow-at c.args.e c.deref-parts.result.now 0 0 (subst (λ (is : List ℕ). AllBelow c.args.e is) (sym parts) c.in-Some.ensures.older) (ltb-true 0 (length c.deref-parts.result.now) some.1) in
    omega (arith, below, c.decreases)

pub bounds-parts-0 : goal.bounds-parts-0
bounds-parts-0 t c =
    let some = and_parts (is_subscripted (form_of c.node.inside.form)) (nat_lt 0 (length c.deref-parts.result.now)) (sym c.is_subscripted.ensures ∙ c.if-is_subscripted.true) in
    ltb-true 0 (length c.deref-parts.result.now) some.1
