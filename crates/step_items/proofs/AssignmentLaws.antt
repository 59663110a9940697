-- Assignments and numbers in memory that are made one by one, with trees put in for their names.
use Rattle.std.proofs.Common.{◌≡◌, ℕ, ◌+◌, ◌<◌, ◌≤◌, List, [], ◌∷◌, ◌++◌, length, map, take, get_or, refl, sym, ap, ◌∙◌, arith}
use Rattle.std.proofs.lemmas.List.{take_more}
use Rattle.tla_tree.specs.Tree.{Tree, Trees, no_trees, tree, Graft, graft, grafts}
use Rattle.tla_tree.specs.Pool.{at, trees_at, Keeps}
use Rattle.tla_tree.specs.Nesting.{greatest}
use Rattle.pcal_tree.specs.declared.algorithm.Assignment.{Assignment}
use Rattle.pcal_tree.specs.Algorithm.{Assignments, no_assignments, assignment}
use Rattle.pcal_tree.specs.InMemory.{assignments_at, past_assignment, past_number, past_numbers}
use Rattle.pcal_tree.specs.Expand.{graft_left, graft_assignments}
use Rattle.pcal_tree.proofs.InMemoryEach.{past_one_more}
use Rattle.pcal_tree.proofs.InMemoryGrown.{assignments_at-kept, numbers_kept}
use Rattle.right_sides.specs.Groups.{with_last}
use Rattle.step_items.proofs.DeskLaws.{StaysAt, left_stays}

-- ---- assignments

at_last : (ts : List Tree) (xs : List Assignment) (r : Assignment) → assignments_at ts (xs ++ r ∷ []) ≡ with_last (assignments_at ts xs) (at ts r.left) (at ts r.right)
at_last ts [] r = refl
at_last ts (a ∷ xs) r = ap (assignment (at ts a.left) (at ts a.right)) (at_last ts xs r)

put_last : (g : Graft) (ms : Assignments) (l e : Tree) → graft_assignments g (with_last ms l e) ≡ with_last (graft_assignments g ms) (graft_left g l) (graft g e)
put_last g no_assignments l e = refl
put_last g (assignment k f ms) l e = ap (assignment (graft_left g k) (graft g f)) (put_last g ms l e)

-- one more: its left side is made after `ts`, its right side after `mid`
pub put_more : (g : Graft) → StaysAt g → (old ts mid us : List Tree) → Keeps old ts → Keeps ts mid → Keeps mid us → (xs zs ys : List Assignment) (i : ℕ) (z r : Assignment)
    → past_assignment z ≤ length old → z ≡ get_or zs i z → i < length zs → r.left < length mid → at mid r.left ≡ graft g (at ts z.left) → at us r.right ≡ graft g (at mid z.right)
    → ys ≡ xs ++ r ∷ [] → greatest (map past_assignment xs) ≤ length ts → assignments_at ts xs ≡ graft_assignments g (assignments_at old (take i zs)) → assignments_at us ys ≡ graft_assignments g (assignments_at old (take (i + 1) zs))
put_more g stays old ts mid us j k m xs zs ys i z r past here less within left right e below so_far =
    let l = at old z.left in
    let first : assignments_at us xs ≡ graft_assignments g (assignments_at old (take i zs)) = assignments_at-kept mid us m xs (omega (arith, below, k.longer)) ∙ assignments_at-kept ts mid k xs below ∙ so_far in
    let lefts : at us r.left ≡ graft_left g l = m.same r.left within ∙ left ∙ ap (graft g) (j.same z.left (omega (arith, past))) ∙ sym (left_stays g stays l) in
    let rights : at us r.right ≡ graft g (at old z.right) = right ∙ ap (graft g) (k.same z.right (omega (arith, past, j.longer)) ∙ j.same z.right (omega (arith, past))) in
    ap (assignments_at us) e
    ∙ at_last us xs r
    ∙ (λ n. with_last (first n) (lefts n) (rights n))
    ∙ sym (put_last g (assignments_at old (take i zs)) l (at old z.right))
    ∙ ap (graft_assignments g) (sym (at_last old (take i zs) z) ∙ ap (assignments_at old) (sym (take_more zs i z less ∙ ap (λ (y : Assignment). take i zs ++ y ∷ []) (sym here))))

pub past_more : (m n : ℕ) (xs ys : List Assignment) (r : Assignment) → greatest (map past_assignment xs) ≤ m → m ≤ n → r.left < n → r.right < n → ys ≡ xs ++ r ∷ [] → greatest (map past_assignment ys) ≤ n
past_more m n xs ys r h le left right e =
    let all = ap (λ (l : List Assignment). greatest (map past_assignment l)) e in
    omega (arith, all, past_one_more past_assignment xs r, h, le, left, right)

-- ---- numbers

abbrev with_tree : Trees → Tree → Trees
with_tree no_trees t = tree t no_trees
with_tree (tree u us) t = tree u (with_tree us t)

number_last : (ts : List Tree) (xs : List ℕ) (r : ℕ) → trees_at ts (xs ++ r ∷ []) ≡ with_tree (trees_at ts xs) (at ts r)
number_last ts [] r = refl
number_last ts (x ∷ xs) r = ap (tree (at ts x)) (number_last ts xs r)

put_tree : (g : Graft) (us : Trees) (t : Tree) → grafts g (with_tree us t) ≡ with_tree (grafts g us) (graft g t)
put_tree g no_trees t = refl
put_tree g (tree u us) t = ap (tree (graft g u)) (put_tree g us t)

pub numbers_more : (g : Graft) (old ts us : List Tree) → Keeps old ts → Keeps ts us → (xs zs ys : List ℕ) (i z r : ℕ) → z < length old → z ≡ get_or zs i z → i < length zs → at us r ≡ graft g (at ts z)
    → ys ≡ xs ++ r ∷ [] → past_numbers xs ≤ length ts → trees_at ts xs ≡ grafts g (trees_at old (take i zs)) → trees_at us ys ≡ grafts g (trees_at old (take (i + 1) zs))
numbers_more g old ts us j k xs zs ys i z r past here less made e below so_far =
    ap (trees_at us) e
    ∙ number_last us xs r
    ∙ (λ n. with_tree ((numbers_kept ts us k xs below ∙ so_far) n) ((made ∙ ap (graft g) (j.same z past)) n))
    ∙ sym (put_tree g (trees_at old (take i zs)) (at old z))
    ∙ ap (grafts g) (sym (number_last old (take i zs) z) ∙ ap (trees_at old) (sym (take_more zs i z less ∙ ap (λ (y : ℕ). take i zs ++ y ∷ []) (sym here))))

pub past_numbers_more : (m n : ℕ) (xs ys : List ℕ) (r : ℕ) → past_numbers xs ≤ m → m ≤ n → r < n → ys ≡ xs ++ r ∷ [] → past_numbers ys ≤ n
past_numbers_more m n xs ys r h le within e =
    let all = ap past_numbers e in
    omega (arith, all, past_one_more past_number xs r, h, le, within)
