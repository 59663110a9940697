-- What is left after the parts of an expression, one after another.
use Rattle.std.proofs.Common.{◌≡◌, ℕ, zero, suc, ◌+◌, ◌-◌, ◌*◌, ◌<◌, ◌≤◌, max, min, nat_lt, nat_eq, Bool, false, true, cond, List, [], ◌∷◌, length, drop, get_or, Option, Some, None, refl, sym, ap, ◌∙◌, arith, lt-ltb, le-ltb, ltb-true, ltb-false}
use Rattle.std.proofs.lemmas.List.{drop_more}
use Rattle.tla_token.specs.declared.place.Place.{Place}
use Rattle.tla_tree.specs.Tree.{Word, name, Tree, Trees, tree, Graft, graft, grafts, grafted_name, grafted_node}
use Rattle.tla_tree.specs.Nesting.{tree_nesting, trees_nesting}
use Rattle.tla_tree.specs.Pool.{at, trees_at}
use Rattle.tla_pool.specs.declared.form.Form as code_form
use Rattle.tla_pool.specs.declared.form.Form.TheVariants as code
use Rattle.tla_pool.specs.FormOf.{form_of}
use Rattle.macro_expand.specs.Size.{nodes, weighed, weights}
use Rattle.expansion_size.specs.declared.left.Left.{Left}
use Rattle.expansion_size.specs.Spent.{none_left, spend}
use Rattle.expansion_size.specs.TreesSpent.{tree_spent, parts_spent}
use Rattle.expansion_size.proofs.SpendLaws.{spend_then, less_than_greater, same_test, never_less}

-- ---- how often a part counts

too_many : (m k : ℕ) (b : Bool) (l : Left) → l.nodes ≤ m → spend m k b l ≡ cond (nat_eq l.nodes 0) l (cond b none_left none_left)
too_many m k b l h = ap (λ (z : Bool). cond (nat_eq l.nodes 0) l (cond b none_left (cond z (record { nodes = l.nodes - m; labels = l.labels - k }) none_left))) (le-ltb m l.nodes h)

at_least : (r x : ℕ) → r ≤ r * suc x
at_least r x = let e : r * suc x ≡ r + r * x = grind (arith) in omega (arith, e)

-- what is as great as what is left counts as any greater number
pub as_far : (r p x : ℕ) (b : Bool) (l : Left) → min r l.nodes ≡ min p l.nodes → spend (r * x) 0 b l ≡ spend (p * x) 0 b l
as_far r p zero b l h = ap (λ (n : ℕ). spend n 0 b l) (none r ∙ sym (none p))
  where
    none : (n : ℕ) → n * 0 ≡ 0
    none n = omega arith
as_far r p (suc x) b l h = by (nat_lt r l.nodes) refl
  where
    by : (z : Bool) → nat_lt r l.nodes ≡ z → spend (r * suc x) 0 b l ≡ spend (p * suc x) 0 b l
    by true e = let i = ltb-true r l.nodes e in ap (λ (n : ℕ). spend (n * suc x) 0 b l) (let same : r ≡ p = omega (arith, h, i) in same)
    by false e =
        let i = ltb-false r l.nodes e in
        let j : l.nodes ≤ p = omega (arith, h, i) in
        let m = at_least r x in
        let n = at_least p x in
        too_many (r * suc x) 0 b l (omega (arith, i, m)) ∙ sym (too_many (p * suc x) 0 b l (omega (arith, j, n)))

-- ---- the parts of a form

weighed_at : (ks : List ℕ) (i : ℕ) (t : Tree) (us : Trees) → weighed (drop i ks) (tree t us) ≡ get_or ks i 1 * nodes t + weighed (drop (suc i) ks) us
weighed_at [] i t us = first i ∙ ap (λ (n : ℕ). n + weighed [] us) (let e : nodes t ≡ 1 * nodes t = omega arith in e)
  where
    first : (i : ℕ) → weighed (drop i []) (tree t us) ≡ nodes t + weighed [] us
    first zero = refl
    first (suc i) = refl
weighed_at (k ∷ ks) zero t us = refl
weighed_at (k ∷ ks) (suc i) t us = weighed_at ks i t us

next : (i : ℕ) → suc i ≡ i + 1
next i = omega arith

one_less : (d k : ℕ) → 0 < d → nat_lt (d - 1) k ≡ nat_lt d (1 + k)
one_less d k h = same_test (d - 1) k d (1 + k) (λ i. omega (arith, i, h)) (λ i. omega (arith, i, h))

part_spent : (w d : ℕ) (ks : List ℕ) (i : ℕ) (t : Tree) (us : Trees) (l : Left) → 0 < d → parts_spent w d (drop i ks) (tree t us) l ≡ parts_spent w d (drop (i + 1) ks) us (tree_spent (w * get_or ks i 1) (d - 1) t l)
part_spent w d ks i t us l h =
    (λ z. spend (w * weighed_at ks i t us z) 0 (less_than_greater d (1 + tree_nesting t) (trees_nesting us) z) l)
    ∙ sym (spend_then (w * k * nodes t) 0 (w * weighed (drop (suc i) ks) us) 0 (w * (k * nodes t + weighed (drop (suc i) ks) us)) 0 (nat_lt d (1 + tree_nesting t)) (nat_lt d (trees_nesting us)) l
    (over w k (nodes t) (weighed (drop (suc i) ks) us)) refl)
    ∙ (λ z. spend (w * weighed (drop (next i z) ks) us) 0 (nat_lt d (trees_nesting us)) (spend (w * k * nodes t) 0 (sym (one_less d (tree_nesting t) h) z) l))
  where
    k : ℕ
    k = get_or ks i 1

    over : (w k n m : ℕ) → w * (k * n + m) ≡ w * k * n + w * m
    over w k n m = grind (arith)

-- in a loop: the part of a number, of which each node counts as often as a number says that is as good as the product
pub parts_more : (w d : ℕ) (ks : List ℕ) (g : Graft) (ts : List Tree) (es : List ℕ) (i e r : ℕ) (l : Left) → 0 < d → e ≡ get_or es i e → i < length es → min r l.nodes ≡ min (w * get_or ks i 1) l.nodes
    → parts_spent w d (drop (i + 1) ks) (grafts g (trees_at ts (drop (i + 1) es))) (tree_spent r (d - 1) (graft g (at ts e)) l) ≡ parts_spent w d (drop i ks) (grafts g (trees_at ts (drop i es))) l
parts_more w d ks g ts es i e r l h here within far =
    ap (parts_spent w d (drop (i + 1) ks) (grafts g (trees_at ts (drop (i + 1) es)))) (as_far r (w * get_or ks i 1) (nodes (graft g (at ts e))) (nat_lt (d - 1) (tree_nesting (graft g (at ts e)))) l far)
    ∙ sym (part_spent w d ks i (graft g (at ts e)) (grafts g (trees_at ts (drop (i + 1) es))) l h)
    ∙ ap (λ (is : List ℕ). parts_spent w d (drop i ks) (grafts g (trees_at ts is)) l) (ap (λ (n : ℕ). n ∷ drop (i + 1) es) here ∙ sym (drop_more es i e within))

-- some part is deeper than nothing
pub parts_too_deep : (w d : ℕ) (ks : List ℕ) (g : Graft) (ts : List Tree) (es : List ℕ) (l : Left) → d ≡ 0 → 0 < length es → spend 0 0 true l ≡ parts_spent w d ks (grafts g (trees_at ts es)) l
parts_too_deep w d ks g ts [] l h m = absurd (let n : ⊥ = omega (arith, m) in n)
parts_too_deep w d ks g ts (e ∷ es) l h m =
    ap (λ (b : Bool). spend (w * weighed ks (grafts g (trees_at ts (e ∷ es)))) 0 b l)
    (sym (lt-ltb d (max (1 + tree_nesting (graft g (at ts e))) (trees_nesting (grafts g (trees_at ts es)))) (omega (arith, h))))

-- ---- an expression

-- an expression that is no name, after it itself
pub form_spent : (f : code_form.Form) (g : Graft) (p : Place) (us : Trees) (w d : ℕ) (l : Left) → ((x : Word) → f ≡ code.Name x → ⊥)
    → parts_spent w d (weights (form_of f)) us (spend w 0 false l) ≡ tree_spent w d (grafted_node g (form_of f) p us) l
form_spent (code.Name x) g p us w d l h = absurd (h x refl)
form_spent f g p us w d l h = spend_then w 0 (w * weighed (weights (form_of f)) us) 0 (w * (1 + weighed (weights (form_of f)) us)) 0 false (nat_lt d (trees_nesting us)) l (over w (weighed (weights (form_of f)) us)) refl
  where
    over : (w m : ℕ) → w * (1 + m) ≡ w + w * m
    over w m = grind (arith)

-- a name for which nothing stands, and one for which something does
name_spent : (w d : ℕ) (l : Left) → spend w 0 false l ≡ spend (w * 1) 0 (nat_lt d 0) l
name_spent w d l = λ z. spend (one w z) 0 (sym (never_less d) z) l
  where
    one : (w : ℕ) → w ≡ w * 1
    one w = omega arith

pub name_alone : (g : Graft) (x : Word) (p : Place) (us : Trees) (w d : ℕ) (l : Left) → None ≡ g x p → spend w 0 false l ≡ tree_spent w d (grafted_node g (name x) p us) l
name_alone g x p us w d l h = name_spent w d l ∙ ap (λ (o : Option Tree). tree_spent w d (grafted_name o (name x) p us) l) h

pub name_put : (g : Graft) (x : Word) (p : Place) (us : Trees) (t : Tree) (w d : ℕ) (l : Left) → Some t ≡ g x p → tree_spent w d t l ≡ tree_spent w d (grafted_node g (name x) p us) l
name_put g x p us t w d l h = ap (λ (o : Option Tree). tree_spent w d (grafted_name o (name x) p us) l) h
