-- Statements that set once assign once as the laws of written actions have it, where left sides begin with names.
use Rattle.std.proofs.Common.{◌≡◌, List, [], ◌∷◌, ◌++◌, Bool, true, false, ◌||◌, cond, bytes_eq, Option, Some, None, ◌⊎◌, inl, inr, refl}
use Rattle.std.specs.Option.{unwrap_or}
use Rattle.tla_token.specs.Signs.{is_among}
use Rattle.std.proofs.lemmas.Bool.{both_ways, or_left, or_right}
use Rattle.tla_tree.specs.Tree.{Word}
use Rattle.pcal_tree.specs.Algorithm.{Assignments, no_assignments, assignment, Statement, assign, await, print, assert, skip, branch, either, with, while, goto, macro, call, return, Statements, done, then, mark, Branches, no_branches, or}
use Rattle.pcal_tree.specs.Paths.{root, some_word, roots}
use Rattle.action_builder.specs.Assigned.{Names, more, head_of, without, heads, assigned, assigned_in, assigned_by}
use Rattle.action_builder.specs.laws.Ready.{Apart, IsWithin, OnceOne, Once, OnceSome}
use Rattle.action_builder.proofs.Main.{append_cases, in_front, behind}
use Rattle.translation.specs.laws.StepsOnce.{set_by, set_in, set_in_some, SetsOnceOne, SetsOnce, SetsOnceSome}
use Rattle.translation.specs.laws.WritableAlgorithm.{AreWritableAssignments, IsWritableStatement, AreWritableStatements, AreWritableBranches}
use Rattle.translation.proofs.StepsOnce.{In, Within}

-- ---- the names of assignments

kept_within : (y : Word) (ys : List Word) → Within (without y ys) ys
kept_within y [] x m = m
kept_within y (z ∷ zs) x m = by (bytes_eq y z) m (kept_within y zs x)
  where
    by : (b : Bool) → In (cond b (without y zs) (z ∷ without y zs)) x → (In (without y zs) x → In zs x) → In (z ∷ zs) x
    by true k rest = or_right (bytes_eq z x) (is_among zs x) (rest k)
    by false k rest = either_of (bytes_eq z x) k
      where
        either_of : (c : Bool) → (c || is_among (without y zs) x) ≡ true → (c || is_among zs x) ≡ true
        either_of true e = refl
        either_of false e = rest e

abbrev IsSome : Option Word → Type 0
IsSome None = ⊥
IsSome (Some x) = Unit {0}

head_within : (o : Option Word) → IsSome o → (x : Word) (hs rs : List Word) → (In hs x → In rs x) → In (unwrap_or o [] ∷ hs) x → In (some_word o ++ rs) x
head_within None r x hs rs k m = absurd r
head_within (Some y) r x hs rs k m = by (bytes_eq y x) m
  where
    by : (c : Bool) → (c || is_among hs x) ≡ true → (c || is_among rs x) ≡ true
    by true e = refl
    by false e = k e

some_root : (o : Option Word) (y : Word) → o ≡ Some y → IsSome o
some_root None y e = absurd cc
some_root (Some x) y e = tt

heads_within : (V : Word → Bool) (ms : Assignments) → AreWritableAssignments V ms → Within (heads ms) (roots ms)
heads_within V no_assignments h x m = m
heads_within V (assignment l e ms) h x m =
    head_within (root l) (some_root (root l) h.0.1.0 h.0.1.1) x (without (head_of l) (heads ms)) (roots ms) (λ n. heads_within V ms h.2 x (kept_within (head_of l) (heads ms) x n)) m

two_within : (xs ys us vs : List Word) → Within xs us → Within ys vs → Within (xs ++ ys) (us ++ vs)
two_within xs ys us vs h k x m = by (append_cases xs ys x m)
  where
    by : In xs x ⊎ In ys x → In (us ++ vs) x
    by (inl n) = in_front us vs x (h x n)
    by (inr n) = behind us vs x (k x n)

-- ---- statements

more_within : (A B : Names) (xs ys : List Word) → IsWithin B A → Within xs ys → IsWithin (more B xs) (more A ys)
more_within A B xs ys h k x m = by (B x) refl m
  where
    by : (b : Bool) → B x ≡ b → (b || is_among xs x) ≡ true → more A ys x ≡ true
    by true e n = or_left (A x) (is_among ys x) (h x e)
    by false e n = or_right (A x) (is_among ys x) (k x n)

apart_within : (A B : Names) (xs ys : List Word) → IsWithin B A → Within xs ys → Apart A ys → Apart B xs
apart_within A B xs ys h k q x m = by (B x) refl
  where
    by : (b : Bool) → B x ≡ b → b ≡ false
    by true e = absurd (both_ways (A x) (q x (k x m)) (h x e))
    by false e = refl

module _ (C V : Word → Bool) where
  mutual
    one_assigned : (st : Statement) → IsWritableStatement C V st → Within (assigned st) (set_by st)
    one_assigned (assign ms) w = heads_within V ms w.0
    one_assigned (branch e a b) w = two_within (assigned_in a) (assigned_in b) (set_in a) (set_in b) (all_assigned a w.1) (all_assigned b w.2)
    one_assigned (either no_branches) w = λ x m. m
    one_assigned (either (or b bs)) w = two_within (assigned_in b) (assigned_by bs) (set_in b) (set_in_some bs) (all_assigned b w.0) (some_assigned bs w.1)
    one_assigned (with bs b) w = all_assigned b w.1
    one_assigned (while e b) w = λ x m. m
    one_assigned (await e) w = λ x m. m
    one_assigned (print e) w = λ x m. m
    one_assigned (assert e) w = λ x m. m
    one_assigned skip w = λ x m. m
    one_assigned (goto l) w = λ x m. m
    one_assigned (macro m ts) w = λ x n. n
    one_assigned (call m ts) w = λ x n. n
    one_assigned return w = λ x m. m

    all_assigned : (b : Statements) → AreWritableStatements C V b → Within (assigned_in b) (set_in b)
    all_assigned done w = λ x m. m
    all_assigned (then at st rest) w = two_within (assigned st) (assigned_in rest) (set_by st) (set_in rest) (one_assigned st w.0) (all_assigned rest w.1)
    all_assigned (mark l k rest) w = λ x m. m

    some_assigned : (bs : Branches) → AreWritableBranches C V bs → Within (assigned_by bs) (set_in_some bs)
    some_assigned no_branches w = λ x m. m
    some_assigned (or b bs) w = two_within (assigned_in b) (assigned_by bs) (set_in b) (set_in_some bs) (all_assigned b w.0) (some_assigned bs w.1)

  mutual
    one_ready : (A B : Names) (st : Statement) → IsWithin B A → IsWritableStatement C V st → SetsOnceOne A st → OnceOne B st
    one_ready A B (assign ms) h w s = apart_within A B (heads ms) (roots ms) h (heads_within V ms w.0) s
    one_ready A B (branch e a b) h w s = (all_ready A B a h w.1 s.0, all_ready A B b h w.2 s.1)
    one_ready A B (either no_branches) h w s = tt
    one_ready A B (either (or b bs)) h w s = (all_ready A B b h w.0 s.0, some_ready A B bs h w.1 s.1)
    one_ready A B (with bs b) h w s = all_ready A B b h w.1 s
    one_ready A B (while e b) h w s = tt
    one_ready A B (await e) h w s = tt
    one_ready A B (print e) h w s = tt
    one_ready A B (assert e) h w s = tt
    one_ready A B skip h w s = tt
    one_ready A B (goto l) h w s = tt
    one_ready A B (macro m ts) h w s = tt
    one_ready A B (call m ts) h w s = tt
    one_ready A B return h w s = tt

    all_ready : (A B : Names) (b : Statements) → IsWithin B A → AreWritableStatements C V b → SetsOnce A b → Once B b
    all_ready A B done h w s = tt
    all_ready A B (then at st rest) h w s =
        (one_ready A B st h w.0 s.0, all_ready (more A (set_by st)) (more B (assigned st)) rest (more_within A B (assigned st) (set_by st) h (one_assigned st w.0)) w.1 s.1)
    all_ready A B (mark l k rest) h w s = tt

    some_ready : (A B : Names) (bs : Branches) → IsWithin B A → AreWritableBranches C V bs → SetsOnceSome A bs → OnceSome B bs
    some_ready A B no_branches h w s = tt
    some_ready A B (or b bs) h w s = (all_ready A B b h w.0 s.0, some_ready A B bs h w.1 s.1)

pub sets_ready : (C V : Word → Bool) (A : Names) (b : Statements) → AreWritableStatements C V b → SetsOnce A b → Once A b
sets_ready C V A b w s = all_ready C V A A b (λ x e. e) w s
