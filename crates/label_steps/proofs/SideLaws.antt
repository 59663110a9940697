-- Left sides, from the last one to the first: whether two clash is told by ranks of their variables.
use Rattle.std.proofs.Common.{◌≡◌, ℕ, zero, suc, ◌+◌, ◌-◌, ◌<◌, ◌≤◌, max, Bool, true, false, ◌&&◌, ◌||◌, List, [], ◌∷◌, ◌++◌, length, drop, get_or, Option, Some, None, refl, sym, ap, ◌∙◌, cond, bytes_eq, arith, subst, lt-ltb}
use Rattle.std.specs.List.{list_any}
use Rattle.std.proofs.lemmas.Slice.Eq.{bytes_eq-Decides}
use Rattle.std.proofs.lemmas.List.{drop_more, drop_all}
use Rattle.std.proofs.lemmas.List.Folds.{list_any-append}
use Rattle.tla_tree.specs.Tree.{Word, Tree}
use Rattle.tla_tree.specs.Pool.{at}
use Rattle.pcal_tree.specs.declared.algorithm.Assignment.{Assignment}
use Rattle.pcal_tree.specs.Algorithm.{Assignments, no_assignments, assignment}
use Rattle.pcal_tree.specs.InMemory.{assignments_at}
use Rattle.pcal_tree.specs.Paths.{root, roots, is_whole, some_word, same_word, clashes_with, clashes}
use Rattle.algorithm_limits.specs.Numbers.{Numbers, number_of}
use Rattle.algorithm_limits.proofs.Tables.{number_of_with}
use Rattle.label_steps.specs.declared.sides.Sides.{Sides}
use Rattle.label_steps.specs.SidesIn.{rank_with, rank_in, rank_clashes, Passed, AreSides}

-- one more left side clashes with those before it, or one of them does
ranks_clash : (w v : Bool) (n : ℕ) → ((w || v) || rank_clashes w n) ≡ rank_clashes w (rank_with v n)
ranks_clash true true n = refl
ranks_clash true false zero = refl
ranks_clash true false (suc n) = sym (lt-ltb 0 (max (suc n) 1) (omega arith))
ranks_clash false true n = refl
ranks_clash false false zero = refl
ranks_clash false false (suc zero) = refl
ranks_clash false false (suc (suc n)) = lt-ltb 1 (suc (suc n)) (omega arith) ∙ sym (lt-ltb 1 (max (suc (suc n)) 1) (omega arith))

bytes_turned : (x y : Word) → bytes_eq x y ≡ bytes_eq y x
bytes_turned x y =
    by (bytes_eq x y) (bytes_eq y x) (λ h. (bytes_eq-Decides y x).1 (sym ((bytes_eq-Decides x y).0 h))) (λ h. (bytes_eq-Decides x y).1 (sym ((bytes_eq-Decides y x).0 h)))
  where
    by : (b c : Bool) → (b ≡ true → c ≡ true) → (c ≡ true → b ≡ true) → b ≡ c
    by true c h k = sym (h refl)
    by false true h k = k refl
    by false false h k = refl

turned : (x : Word) (o : Option Word) → same_word (Some x) o ≡ same_word o (Some x)
turned x None = refl
turned x (Some y) = bytes_turned x y

with_rank : (l : Tree) (x : Word) → root l ≡ Some x → (ms : Assignments) → clashes_with l ms ≡ rank_clashes (is_whole l) (rank_in ms x)
with_rank l x e no_assignments = by (is_whole l)
  where
    by : (w : Bool) → false ≡ rank_clashes w 0
    by true = refl
    by false = refl
with_rank l x e (assignment m t ms) =
    (λ i. ((ap (λ (o : Option Word). same_word o (root m)) e ∙ turned x (root m)) i && (is_whole l || is_whole m)) || with_rank l x e ms i)
    ∙ by (same_word (root m) (Some x)) (is_whole l) (is_whole m) (rank_in ms x)
  where
    by : (s w v : Bool) (n : ℕ) → ((s && (w || v)) || rank_clashes w n) ≡ rank_clashes w (cond s (rank_with v n) n)
    by true w v n = ranks_clash w v n
    by false w v n = refl

with_none : (l : Tree) → root l ≡ None → (ms : Assignments) → clashes_with l ms ≡ false
with_none l e no_assignments = refl
with_none l e (assignment m t ms) = λ i. (ap (λ (o : Option Word). same_word o (root m)) e i && (is_whole l || is_whole m)) || with_none l e ms i

-- ---- one more left side

swapped : (a b : Bool) → (a || (b || false)) ≡ (b || a)
swapped true true = refl
swapped true false = refl
swapped false true = refl
swapped false false = refl

pub side_added : (old new : Sides) (l t : Tree) (x : Word) (w : Bool) (ms : Assignments) → root l ≡ Some x → w ≡ is_whole l → Passed old new x w → AreSides old ms → AreSides new (assignment l t ms)
side_added old new l t x w ms e k p a = record {
  names = λ f.
      ap (list_any f) p.names ∙ list_any-append f old.step.names.items (x ∷ []) ∙ ap (λ (b : Bool). b || (f x || false)) (a.names f) ∙ swapped (list_any f (roots ms)) (f x)
      ∙ ap (λ (o : Option Word). list_any f (some_word o ++ roots ms)) (sym e);
  twice =
      p.twice ∙ (λ i. rank_clashes (k i) (a.ranks x i) || a.twice i) ∙ ap (λ (b : Bool). b || clashes ms) (sym (with_rank l x e ms));
  ranks = λ y.
      ap (λ (es : Numbers). number_of es y) p.ranks ∙ number_of_with old.ranks x (rank_with w (number_of old.ranks x)) y ∙ by y (bytes_eq x y) refl
      ∙ ap (λ (o : Option Word). cond (same_word o (Some y)) (rank_with (is_whole l) (rank_in ms y)) (rank_in ms y)) (sym e);
}
  where
    by : (y : Word) (b : Bool) → bytes_eq x y ≡ b → cond b (rank_with w (number_of old.ranks x)) (number_of old.ranks y) ≡ cond b (rank_with (is_whole l) (rank_in ms y)) (rank_in ms y)
    by y true h = (λ i. rank_with (k i) (a.ranks x i)) ∙ ap (λ (z : Word). rank_with (is_whole l) (rank_in ms z)) ((bytes_eq-Decides x y).0 h)
    by y false h = a.ranks y

pub side_passed : (s : Sides) (l t : Tree) (ms : Assignments) → root l ≡ None → AreSides s ms → AreSides s (assignment l t ms)
side_passed s l t ms e a = record {
  names = λ f. a.names f ∙ ap (λ (o : Option Word). list_any f (some_word o ++ roots ms)) (sym e);
  twice = a.twice ∙ ap (λ (b : Bool). b || clashes ms) (sym (with_none l e ms));
  ranks = λ y. a.ranks y ∙ ap (λ (o : Option Word). cond (same_word o (Some y)) (rank_with (is_whole l) (rank_in ms y)) (rank_in ms y)) (sym e);
}

-- ---- in the loop, from the last one on

pub sides_none : (s : Sides) → s.step.names.items ≡ [] → s.step.twice ≡ false → s.ranks ≡ [] → AreSides s no_assignments
sides_none s n t r = record { names = λ f. ap (list_any f) n; twice = t; ranks = λ x. ap (λ (es : Numbers). number_of es x) r }

pub sides_first : (ts : List Tree) (s : Sides) (ms : List Assignment) → AreSides s no_assignments → AreSides s (assignments_at ts (drop (length ms - 0) ms))
sides_first ts s ms a = subst (λ (ns : List Assignment). AreSides s (assignments_at ts ns)) (sym (drop_all (length ms - 0) ms (omega arith))) a

pub next_side : (ts : List Tree) (ms : List Assignment) (i : ℕ) (m : Assignment) → m ≡ get_or ms (length ms - 1 - i) m → i < length ms
    → assignment (at ts m.left) (at ts m.right) (assignments_at ts (drop (length ms - i) ms)) ≡ assignments_at ts (drop (length ms - (i + 1)) ms)
next_side ts ms i m e l =
    let here : (length ms - 1 - i) + 1 ≡ length ms - i = omega (arith, l) in
    let more : length ms - 1 - i ≡ length ms - (i + 1) = omega (arith, l) in
    let less : length ms - 1 - i < length ms = omega (arith, l) in
    ap (λ (ns : List Assignment). assignments_at ts ns)
    (ap (λ (ns : List Assignment). m ∷ ns) (ap (λ (n : ℕ). drop n ms) (sym here)) ∙ ap (λ (z : Assignment). z ∷ drop ((length ms - 1 - i) + 1) ms) e ∙ sym (drop_more ms (length ms - 1 - i) m less) ∙ ap (λ (n : ℕ). drop n ms) more)

pub sides_more : (ts : List Tree) (old new : Sides) (ms : List Assignment) (i : ℕ) (m : Assignment) → m ≡ get_or ms (length ms - 1 - i) m → i < length ms
    → ((t : Tree) (ns : Assignments) → AreSides old ns → AreSides new (assignment (at ts m.left) t ns)) → AreSides old (assignments_at ts (drop (length ms - i) ms)) → AreSides new (assignments_at ts (drop (length ms - (i + 1)) ms))
sides_more ts old new ms i m e l h a =
    subst (λ (ns : Assignments). AreSides new ns) (next_side ts ms i m e l) (h (at ts m.right) (assignments_at ts (drop (length ms - i) ms)) a)

pub sides_all : (ts : List Tree) (s : Sides) (ms : List Assignment) (i : ℕ) → length ms ≤ i → AreSides s (assignments_at ts (drop (length ms - i) ms)) → AreSides s (assignments_at ts ms)
sides_all ts s ms i l a =
    let none : length ms - i ≡ 0 = omega (arith, l) in
    subst (λ (n : ℕ). AreSides s (assignments_at ts (drop n ms))) none a
