-- How many statements are in a list with all that are in these: why calls that go through statements end, also where they go on with the rest of a list.
use Rattle.std.proofs.lemmas.Simd.{map-map}
use Rattle.std.proofs.Common.{◌≡◌, ℕ, suc, zero, ◌+◌, ◌<◌, ◌≤◌, List, [], ◌∷◌, length, map, get_or, drop, Vec, Global, sym, ap, ◌∙◌, arith}
use Rattle.tla_tree.specs.Nesting.{greatest}
use Rattle.pcal_tree.specs.declared.algorithm.Span.{Span}
use Rattle.pcal_tree.specs.declared.algorithm.Bind.{Bind}
use Rattle.pcal_tree.specs.declared.algorithm.Stmt.{Stmt}
use Rattle.pcal_tree.specs.declared.algorithm.Stmt.TheOpen.{Stmt-F}
use Rattle.pcal_tree.specs.declared.algorithm.Stmt.TheFolds.{fold-Stmt, fold-roll-Stmt}
use Rattle.pcal_tree.specs.declared.algorithm.Stmt.TheVariants.{If, Either, With, While, rolls-If, rolls-Either, rolls-With, rolls-While}

abbrev pub total : List ℕ → ℕ
total [] = 0
total (n ∷ ns) = n + total ns

abbrev weight_step : Stmt-F ℕ → ℕ
weight_step (Stmt-F.If s e a b) = total a.items + total b.items + 1
weight_step (Stmt-F.Either s bs) = total (map (λ (b : Vec ℕ Global). total b.items) bs.items) + 1
weight_step (Stmt-F.With s bs a) = total a.items + 1
weight_step (Stmt-F.While s e a) = total a.items + 1
weight_step _ = 1

abbrev pub weight : Stmt → ℕ
weight = fold-Stmt ℕ weight_step

abbrev pub weights : List Stmt → ℕ
weights ss = total (map weight ss)

abbrev pub branch_weights : List (Vec Stmt Global) → ℕ
branch_weights bs = total (map (λ (b : Vec Stmt Global). weights b.items) bs)

pub if_weight : (s : Span) (e : ℕ) (a b : Vec Stmt Global) → weight (If s e a b) ≡ weights a.items + weights b.items + 1
if_weight s e a b = ap weight (sym (rolls-If s e a b)) ∙ fold-roll-Stmt ℕ weight_step (Stmt-F.If s e a b)

pub either_weight : (s : Span) (bs : Vec (Vec Stmt Global) Global) → weight (Either s bs) ≡ branch_weights bs.items + 1
either_weight s bs =
    ap weight (sym (rolls-Either s bs)) ∙ fold-roll-Stmt ℕ weight_step (Stmt-F.Either s bs) ∙ ap (λ (l : List ℕ). total l + 1) (map-map _ _ bs.items)

pub with_weight : (s : Span) (bs : Vec Bind Global) (a : Vec Stmt Global) → weight (With s bs a) ≡ weights a.items + 1
with_weight s bs a = ap weight (sym (rolls-With s bs a)) ∙ fold-roll-Stmt ℕ weight_step (Stmt-F.With s bs a)

pub while_weight : (s : Span) (e : ℕ) (a : Vec Stmt Global) → weight (While s e a) ≡ weights a.items + 1
while_weight s e a = ap weight (sym (rolls-While s e a)) ∙ fold-roll-Stmt ℕ weight_step (Stmt-F.While s e a)

-- a member, and a member with those after it
pub total_at : {A : Type 0} (f : A → ℕ) (xs : List A) (i : ℕ) (x : A) → x ≡ get_or xs i x → i < length xs → f x ≤ total (map f xs)
total_at f [] i x is lt = absurd (omega arith)
total_at f (y ∷ ys) zero x is lt = (let e = ap f is in omega (arith, e))
total_at f (y ∷ ys) (suc i) x is lt = (let r = total_at f ys i x is (omega (arith, lt)) in omega (arith, r))

pub total_from : {A : Type 0} (f : A → ℕ) (xs : List A) (i : ℕ) (x : A) → x ≡ get_or xs i x → i < length xs → f x + total (map f (drop (suc i) xs)) ≤ total (map f xs)
total_from f [] i x is lt = absurd (omega arith)
total_from f (y ∷ ys) zero x is lt = (let e = ap f is in omega (arith, e))
total_from f (y ∷ ys) (suc i) x is lt = (let r = total_from f ys i x is (omega (arith, lt)) in omega (arith, r))

pub past_from : {A : Type 0} (f : A → ℕ) (xs : List A) (i : ℕ) (x : A) → x ≡ get_or xs i x → i < length xs → greatest (map f (x ∷ drop (suc i) xs)) ≤ greatest (map f xs)
past_from f [] i x is lt = absurd (omega arith)
past_from f (y ∷ ys) zero x is lt = (let e = ap f is in omega (arith, e))
past_from f (y ∷ ys) (suc i) x is lt = (let r = past_from f ys i x is (omega (arith, lt)) in omega (arith, r))

-- a list from a member on
pub from_member : {A : Type 0} (xs : List A) (i : ℕ) (x : A) → x ≡ get_or xs i x → i < length xs → drop i xs ≡ x ∷ drop (suc i) xs
from_member [] i x is lt = absurd (omega arith)
from_member (y ∷ ys) zero x is lt = λ j. sym is j ∷ ys
from_member (y ∷ ys) (suc i) x is lt = from_member ys i x is (omega (arith, lt))
