-- What is left after two parts is what is left after both, and so the parts of an algorithm can be taken one after another.
use Rattle.std.proofs.Common.{◌≡◌, ℕ, ◌+◌, ◌-◌, suc, ◌<◌, ◌≤◌, max, nat_lt, nat_eq, Bool, false, true, ◌||◌, cond, refl, sym, ap, ◌∙◌, arith, lt-ltb, le-ltb, ltb-true, ltb-false, ne_eqb, false-eqb}
use Rattle.tla_token.specs.Limits.{deepest_expression}
use Rattle.macro_expand.specs.Size.{Size}
use Rattle.macro_expand.specs.Size as size
use Rattle.expansion_size.specs.declared.left.Left.{Left}
use Rattle.expansion_size.specs.Spent.{none_left, spend, spent}
use Rattle.expansion_size.specs.Budget.{inside}

-- ---- tests of numbers

pub same_test : (a b c d : ℕ) → (a < b → c < d) → (c < d → a < b) → nat_lt a b ≡ nat_lt c d
same_test a b c d f g = by (nat_lt a b) refl
  where
    by : (x : Bool) → nat_lt a b ≡ x → x ≡ nat_lt c d
    by true e = sym (lt-ltb c d (f (ltb-true a b e)))
    by false e = let l = ltb-false a b e in sym (le-ltb c d (not_less (λ h. absurd (let k = g h in omega (arith, l, k)))))
      where
        not_less : (c < d → ⊥) → d ≤ c
        not_less h = omega (arith, h)

pub never_less : (n : ℕ) → nat_lt n 0 ≡ false
never_less n = le-ltb n 0 (omega arith)

or_never : (b : Bool) (n : ℕ) → (b || nat_lt n 0) ≡ b
or_never true n = refl
or_never false n = never_less n

or_true : (b : Bool) → (b || true) ≡ true
or_true true = refl
or_true false = refl

pub less_than_greater : (k a b : ℕ) → nat_lt k (max a b) ≡ (nat_lt k a || nat_lt k b)
less_than_greater k a b = by (nat_lt k a) (nat_lt k b) refl refl
  where
    by : (x y : Bool) → nat_lt k a ≡ x → nat_lt k b ≡ y → nat_lt k (max a b) ≡ (x || y)
    by true y e f = let l = ltb-true k a e in lt-ltb k (max a b) (omega (arith, l))
    by false true e f = let l = ltb-true k b f in lt-ltb k (max a b) (omega (arith, l))
    by false false e f = let l = ltb-false k a e in let m = ltb-false k b f in le-ltb k (max a b) (omega (arith, l, m))

four_tests : (a b c d : Bool) → ((a || b) || (c || d)) ≡ ((a || c) || (b || d))
four_tests true b c d = refl
four_tests false true true d = refl
four_tests false true false d = refl
four_tests false false c d = refl

-- ---- one part after another

pub none_spent : (l : Left) → spend 0 0 false l ≡ l
none_spent l = by (nat_eq l.nodes 0) refl
  where
    rest : Left
    rest = record { nodes = l.nodes - 0; labels = l.labels - 0 }

    same : rest ≡ l
    same = λ z. record { nodes = minus l.nodes z; labels = minus l.labels z }
      where
        minus : (n : ℕ) → n - 0 ≡ n
        minus n = omega arith

    by : (x : Bool) → nat_eq l.nodes 0 ≡ x → cond x l (cond false none_left (cond (nat_lt 0 l.nodes) rest none_left)) ≡ l
    by true e = refl
    by false e = ap (λ (y : Bool). cond y rest none_left) (lt-ltb 0 l.nodes (let n = false-eqb l.nodes 0 (sym e) in omega (arith, n))) ∙ same

pub spend_then : (m j n k p q : ℕ) (a b : Bool) (l : Left) → p ≡ m + n → q ≡ j + k → spend n k b (spend m j a l) ≡ spend p q (a || b) l
spend_then m j n k p q a b l ep eq = by (nat_eq l.nodes 0) refl a (nat_lt m l.nodes) refl
  where
    first : Left
    first = record { nodes = l.nodes - m; labels = l.labels - j }

    last : Left
    last = record { nodes = l.nodes - p; labels = l.labels - q }

    after : nat_lt m l.nodes ≡ true → (b : Bool) → spend n k b first ≡ cond b none_left (cond (nat_lt p l.nodes) last none_left)
    after h b =
        ap (λ (z : Bool). cond z first (cond b none_left (cond (nat_lt n first.nodes) (record { nodes = first.nodes - n; labels = first.labels - k }) none_left)))
        (ne_eqb first.nodes 0 (λ e. let l = ltb-true m l.nodes h in omega (arith, l, e)))
        ∙ (λ z. cond b none_left (cond (test z) (both z) none_left))
      where
        less : m < l.nodes
        less = ltb-true m l.nodes h

        test : nat_lt n first.nodes ≡ nat_lt p l.nodes
        test = same_test n first.nodes p l.nodes (λ h. omega (arith, h, ep, less)) (λ h. omega (arith, h, ep, less))

        nodes : first.nodes - n ≡ last.nodes
        nodes = omega (arith, ep)

        labels : first.labels - k ≡ last.labels
        labels = omega (arith, eq)

        both : (record { nodes = first.nodes - n; labels = first.labels - k }) ≡ last
        both = λ z. record { nodes = nodes z; labels = labels z }

    by : (z : Bool) → nat_eq l.nodes 0 ≡ z → (a : Bool) → (y : Bool) → nat_lt m l.nodes ≡ y
        → spend n k b (cond z l (cond a none_left (cond y first none_left))) ≡ cond z l (cond (a || b) none_left (cond (nat_lt p l.nodes) last none_left))
    by true e a y h = ap (λ (z : Bool). cond z l (cond b none_left (cond (nat_lt n l.nodes) (record { nodes = l.nodes - n; labels = l.labels - k }) none_left))) e
    by false e true y h = refl
    by false e false true h = after h b
    by false e false false h = sym (ap (λ (z : Bool). cond b none_left (cond z last none_left)) (le-ltb p l.nodes (let g = ltb-false m l.nodes h in omega (arith, g, ep))) ∙ none b)
      where
        none : (b : Bool) → cond b none_left none_left ≡ none_left
        none true = refl
        none false = refl

-- ---- sizes

pub spent_nothing : (d : ℕ) (l : Left) → spent size.no_size d l ≡ l
spent_nothing d l = ap (λ (b : Bool). spend 0 0 b l) (never_less d) ∙ none_spent l

pub spent_both : (s r : Size) (d : ℕ) (l : Left) → spent (size.both s r) d l ≡ spent r d (spent s d l)
spent_both s r d l =
    ap (λ (b : Bool). spend (s.nodes + r.nodes) (s.labels + r.labels) b l)
    ((λ z. less_than_greater deepest_expression s.expressions r.expressions z || less_than_greater d s.statements r.statements z)
    ∙ four_tests (nat_lt deepest_expression s.expressions) (nat_lt deepest_expression r.expressions) (nat_lt d s.statements) (nat_lt d r.statements))
    ∙ sym (spend_then s.nodes s.labels r.nodes r.labels (s.nodes + r.nodes) (s.labels + r.labels) (nat_lt deepest_expression s.expressions || nat_lt d s.statements) (nat_lt deepest_expression r.expressions || nat_lt d r.statements) l refl refl)

pub spent_expression : (n k d : ℕ) (l : Left) → spent (size.expression_size n k) d l ≡ spend n 0 (nat_lt deepest_expression k) l
spent_expression n k d l = ap (λ (b : Bool). spend n 0 b l) (or_never (nat_lt deepest_expression k) d)

pub spent_left : (n k d : ℕ) (l : Left) → spent (size.expression_size (1 + n) k) d l ≡ spend n 0 (nat_lt deepest_expression k) (spend 1 0 false l)
spent_left n k d l = spent_expression (1 + n) k d l ∙ sym (spend_then 1 0 n 0 (1 + n) 0 false (nat_lt deepest_expression k) l refl refl)

pub spent_statement : (s : Size) (d : ℕ) (l : Left) → spent (size.one_node_more s) d l ≡ spent s d (spend 1 0 false l)
spent_statement s d l = sym (spend_then 1 0 s.nodes s.labels (1 + s.nodes) s.labels false (nat_lt deepest_expression s.expressions || nat_lt d s.statements) l refl (omega arith))

pub spent_label : (s : Size) (d : ℕ) (l : Left) → spent (size.one_label_more s) d l ≡ spent s d (spend 0 1 false l)
spent_label s d l = sym (spend_then 0 1 s.nodes s.labels s.nodes (suc s.labels) false (nat_lt deepest_expression s.expressions || nat_lt d s.statements) l (omega arith) (omega arith))

pub spent_inside : (k : ℕ) (s : Size) (d : ℕ) (l : Left) → spent (size.deeper k s) d l ≡ inside k (spent s) d l
spent_inside k s d l = by (nat_lt d k) refl
  where
    deep : Bool
    deep = nat_lt deepest_expression s.expressions

    by : (x : Bool) → nat_lt d k ≡ x → spend s.nodes s.labels (deep || nat_lt d (k + s.statements)) l ≡ cond x (spend 0 0 true l) (spent s (d - k) l)
    by true e = ap (λ (b : Bool). spend s.nodes s.labels b l) (ap (λ (b : Bool). deep || b) (lt-ltb d (k + s.statements) (let h = ltb-true d k e in omega (arith, h))) ∙ or_true deep)
    by false e =
        let h = ltb-false d k e in
        ap (λ (b : Bool). spend s.nodes s.labels (deep || b) l) (same_test d (k + s.statements) (d - k) s.statements (λ i. omega (arith, i, h)) (λ i. omega (arith, i, h)))
