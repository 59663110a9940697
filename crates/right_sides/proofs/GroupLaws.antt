-- Assignments grouped by their variables, one after another.
use Rattle.std.proofs.Common.{◌≡◌, ℕ, ◌+◌, ◌<◌, ◌≤◌, max, List, [], ◌∷◌, ◌++◌, length, map, get_or, take, Bool, true, false, ◌||◌, cond, Option, Some, None, bytes_eq, refl, sym, ap, ◌∙◌, subst, arith, true≢false, Vec, Global}
use Rattle.std.specs.Map.{lookup}
use Rattle.std.proofs.lemmas.Bool.{or_parts}
use Rattle.std.proofs.lemmas.List.{take_more, take_all}
use Rattle.indexmap.specs.IndexMap.{insert_entry}
use Rattle.tla_token.specs.Signs.{is_among}
use Rattle.tla_tree.specs.Tree.{Word, Tree}
use Rattle.tla_tree.specs.Pool.{at}
use Rattle.pcal_tree.specs.declared.algorithm.Assignment.{Assignment}
use Rattle.pcal_tree.specs.Algorithm.{Assignments, no_assignments, assignment}
use Rattle.pcal_tree.specs.InMemory.{assignments_at, past_assignment}
use Rattle.pcal_tree.proofs.InMemoryEach.{past_one_more}
use Rattle.tla_tree.proofs.PoolNumbers.{past_at}
use Rattle.name_bits.specs.NamesIn.{AllApart}
use Rattle.std.specs.Prelude.{◌==◌}
use Rattle.std.specs.Cmp.Lexicographic.{pointwise, bytes_decides}
use Rattle.std.proofs.lemmas.Slice.Eq.{bytes_eq-Decides}
use Rattle.action_builder.specs.Assigned.{head_of, without, heads}
use Rattle.action_builder.specs.Written.{own}
use Rattle.right_sides.specs.Groups.{Group, groups_at, grouped, with_last, with_group, past_all, past_groups}

-- ---- names

abbrev pub equal : Word → Word → Bool
equal = pointwise ◌==◌

pub same_names : (x y : Word) → bytes_eq x y ≡ true → x ≡ y
same_names x y h = (bytes_eq-Decides x y).0 h

pub same_itself : (x : Word) → bytes_eq x x ≡ true
same_itself x = (bytes_eq-Decides x x).1 refl

same_test : (x y : Word) → equal x y ≡ bytes_eq x y
same_test x y = by (bytes_eq x y) (equal x y) refl refl
  where
    by : (b d : Bool) → bytes_eq x y ≡ b → equal x y ≡ d → d ≡ b
    by true true e f = refl
    by true false e f = sym f ∙ (bytes_decides x y).1 (same_names x y e)
    by false true e f = sym ((bytes_eq-Decides x y).1 ((bytes_decides x y).0 f)) ∙ e
    by false false e f = refl

apart_too : (x y : Word) → bytes_eq x y ≡ false → bytes_eq y x ≡ false
apart_too x y h = by (bytes_eq y x) refl
  where
    by : (b : Bool) → bytes_eq y x ≡ b → bytes_eq y x ≡ false
    by true e = absurd (true≢false (sym (same_itself x) ∙ ap (bytes_eq x) (sym (same_names y x e)) ∙ h))
    by false e = e

turned : (x y : Word) → bytes_eq x y ≡ bytes_eq y x
turned x y = by (bytes_eq x y) refl
  where
    by : (b : Bool) → bytes_eq x y ≡ b → b ≡ bytes_eq y x
    by true e = sym (ap (λ z. bytes_eq z x) (sym (same_names x y e)) ∙ same_itself x)
    by false e = sym (apart_too x y e)

-- one name more, where it isn't there
abbrev pub add_name : List Word → Word → List Word
add_name [] x = x ∷ []
add_name (y ∷ ys) x = cond (bytes_eq x y) (y ∷ ys) (y ∷ add_name ys x)

-- ---- the variables of one assignment more

without_added : (h x : Word) (ys : List Word) → without h (add_name ys x) ≡ cond (bytes_eq h x) (without h ys) (add_name (without h ys) x)
without_added h x [] = by (bytes_eq h x)
  where
    by : (b : Bool) → cond b [] (x ∷ []) ≡ cond b [] (x ∷ [])
    by b = refl
without_added h x (y ∷ ys) = by (bytes_eq x y) (bytes_eq h y) (bytes_eq h x) refl refl refl (without_added h x ys)
  where
    by : (p q r : Bool) → bytes_eq x y ≡ p → bytes_eq h y ≡ q → bytes_eq h x ≡ r
        → without h (add_name ys x) ≡ cond r (without h ys) (add_name (without h ys) x)
        → without h (cond p (y ∷ ys) (y ∷ add_name ys x)) ≡ cond r (cond q (without h ys) (y ∷ without h ys)) (add_name (cond q (without h ys) (y ∷ without h ys)) x)
    by true true true e f g ih = ap (λ b. cond b (without h ys) (y ∷ without h ys)) f
    by true true false e f g ih = absurd (true≢false (sym f ∙ ap (bytes_eq h) (sym (same_names x y e)) ∙ g))
    by true false true e f g ih = absurd (true≢false (sym g ∙ ap (bytes_eq h) (same_names x y e) ∙ f))
    by true false false e f g ih = ap (λ b. cond b (without h ys) (y ∷ without h ys)) f ∙ sym (ap (λ b. cond b (y ∷ without h ys) (y ∷ add_name (without h ys) x)) e)
    by false true true e f g ih = ap (λ b. cond b (without h (add_name ys x)) (y ∷ without h (add_name ys x))) f ∙ ih
    by false true false e f g ih = ap (λ b. cond b (without h (add_name ys x)) (y ∷ without h (add_name ys x))) f ∙ ih
    by false false true e f g ih = ap (λ b. cond b (without h (add_name ys x)) (y ∷ without h (add_name ys x))) f ∙ ap (λ zs. y ∷ zs) ih
    by false false false e f g ih =
        ap (λ b. cond b (without h (add_name ys x)) (y ∷ without h (add_name ys x))) f ∙ ap (λ zs. y ∷ zs) ih
        ∙ sym (ap (λ b. cond b (y ∷ without h ys) (y ∷ add_name (without h ys) x)) e)

heads_last : (ms : Assignments) (l e : Tree) → heads (with_last ms l e) ≡ add_name (heads ms) (head_of l)
heads_last no_assignments l e = refl
heads_last (assignment k f ms) l e =
    ap (λ ys. head_of k ∷ without (head_of k) ys) (heads_last ms l e) ∙ ap (λ ys. head_of k ∷ ys) (without_added (head_of k) (head_of l) (heads ms)) ∙ by (bytes_eq (head_of k) (head_of l)) (turned (head_of l) (head_of k))
  where
    by : (b : Bool) → bytes_eq (head_of l) (head_of k) ≡ b
        → head_of k ∷ cond b (without (head_of k) (heads ms)) (add_name (without (head_of k) (heads ms)) (head_of l)) ≡ cond (bytes_eq (head_of l) (head_of k)) (head_of k ∷ without (head_of k) (heads ms)) (head_of k ∷ add_name (without (head_of k) (heads ms)) (head_of l))
    by true q = sym (ap (λ b. cond b (head_of k ∷ without (head_of k) (heads ms)) (head_of k ∷ add_name (without (head_of k) (heads ms)) (head_of l))) q)
    by false q = sym (ap (λ b. cond b (head_of k ∷ without (head_of k) (heads ms)) (head_of k ∷ add_name (without (head_of k) (heads ms)) (head_of l))) q)

-- ---- each variable once

not_among : (x : Word) (ys : List Word) (y : Word) → is_among ys y ≡ false → is_among (without x ys) y ≡ false
not_among x [] y h = refl
not_among x (z ∷ zs) y h = (let p = or_parts (bytes_eq z y) (is_among zs y) h in by (bytes_eq x z) p.0 (not_among x zs y p.1))
  where
    by : (b : Bool) → bytes_eq z y ≡ false → is_among (without x zs) y ≡ false → is_among (cond b (without x zs) (z ∷ without x zs)) y ≡ false
    by true e rest = rest
    by false e rest = ap (λ b. b || is_among (without x zs) y) e ∙ rest

left_out : (x : Word) (ys : List Word) → is_among (without x ys) x ≡ false
left_out x [] = refl
left_out x (y ∷ ys) = by (bytes_eq x y) refl (left_out x ys)
  where
    by : (b : Bool) → bytes_eq x y ≡ b → is_among (without x ys) x ≡ false → is_among (cond b (without x ys) (y ∷ without x ys)) x ≡ false
    by true e rest = rest
    by false e rest = ap (λ b. b || is_among (without x ys) x) (apart_too x y e) ∙ rest

without_apart : (x : Word) (ys : List Word) → AllApart ys → AllApart (without x ys)
without_apart x [] h = tt
without_apart x (y ∷ ys) h = by (bytes_eq x y) (without_apart x ys h.1)
  where
    by : (b : Bool) → AllApart (without x ys) → AllApart (cond b (without x ys) (y ∷ without x ys))
    by true rest = rest
    by false rest = (not_among x ys y h.0, rest)

pub heads_apart : (ms : Assignments) → AllApart (heads ms)
heads_apart no_assignments = tt
heads_apart (assignment l e ms) = (left_out (head_of l) (heads ms), without_apart (head_of l) (heads ms) (heads_apart ms))

-- ---- the assignments of one variable

own_last : (y : Word) (ms : Assignments) (l e : Tree) → own y (with_last ms l e) ≡ cond (bytes_eq (head_of l) y) (with_last (own y ms) l e) (own y ms)
own_last y no_assignments l e = refl
own_last y (assignment k f ms) l e =
    ap (λ (os : Assignments). cond (bytes_eq (head_of k) y) (assignment k f os) os) (own_last y ms l e) ∙ by (bytes_eq (head_of k) y) (bytes_eq (head_of l) y)
  where
    by : (a b : Bool) → cond a (assignment k f (cond b (with_last (own y ms) l e) (own y ms))) (cond b (with_last (own y ms) l e) (own y ms)) ≡ cond b (with_last (cond a (assignment k f (own y ms)) (own y ms)) l e) (cond a (assignment k f (own y ms)) (own y ms))
    by true true = refl
    by true false = refl
    by false true = refl
    by false false = refl

among_without : (x : Word) (ys : List Word) (y : Word) → bytes_eq x y ≡ false → is_among (without x ys) y ≡ false → is_among ys y ≡ false
among_without x [] y e h = refl
among_without x (z ∷ zs) y e h = by (bytes_eq x z) refl (among_without x zs y e) h
  where
    by : (b : Bool) → bytes_eq x z ≡ b → (is_among (without x zs) y ≡ false → is_among zs y ≡ false) → is_among (cond b (without x zs) (z ∷ without x zs)) y ≡ false → (bytes_eq z y || is_among zs y) ≡ false
    by true q rest k = ap (λ b. b || is_among zs y) (ap (λ w. bytes_eq w y) (sym (same_names x z q)) ∙ e) ∙ rest k
    by false q rest k = (let p = or_parts (bytes_eq z y) (is_among (without x zs) y) k in ap (λ b. b || is_among zs y) p.0 ∙ rest p.1)

own_none : (ms : Assignments) (y : Word) → is_among (heads ms) y ≡ false → own y ms ≡ no_assignments
own_none no_assignments y h = refl
own_none (assignment l e ms) y h =
    let p = or_parts (bytes_eq (head_of l) y) (is_among (without (head_of l) (heads ms)) y) h in
    ap (λ b. cond b (assignment l e (own y ms)) (own y ms)) p.0 ∙ own_none ms y (among_without (head_of l) (heads ms) y p.0 p.1)

-- ---- one assignment more, among groups of a list of variables that has each once

abbrev all_by : (Word → Assignments) → List Word → List (Word × Assignments)
all_by f ys = map (λ y. (y, f y)) ys

-- the assignments of each variable, with one more of x
abbrev by_more : (Word → Assignments) → Word → Tree → Tree → Word → Assignments
by_more f x l e y = cond (bytes_eq x y) (with_last (f y) l e) (f y)

others_stay : (f : Word → Assignments) (x : Word) (l e : Tree) (ys : List Word) → is_among ys x ≡ false → all_by f ys ≡ all_by (by_more f x l e) ys
others_stay f x l e [] h = refl
others_stay f x l e (y ∷ ys) h =
    let p = or_parts (bytes_eq y x) (is_among ys x) h in
    λ j. (y, cond (sym (apart_too y x p.0) j) (with_last (f y) l e) (f y)) ∷ others_stay f x l e ys p.1 j

group_added : (f : Word → Assignments) (x : Word) (l e : Tree) (ys : List Word) → AllApart ys → (is_among ys x ≡ false → f x ≡ no_assignments)
    → with_group (all_by f ys) x l e ≡ all_by (by_more f x l e) (add_name ys x)
group_added f x l e [] h n =
    λ j. (x, (ap (λ (os : Assignments). with_last os l e) (sym (n refl)) ∙ ap (λ b. cond b (with_last (f x) l e) (f x)) (sym (same_itself x))) j) ∷ []
group_added f x l e (y ∷ ys) h n = by (bytes_eq x y) refl (λ m. group_added f x l e ys h.1 (λ k. n (ap (λ b. b || is_among ys x) m ∙ k)))
  where
    by : (b : Bool) → bytes_eq x y ≡ b → (bytes_eq y x ≡ false → with_group (all_by f ys) x l e ≡ all_by (by_more f x l e) (add_name ys x)) → cond b ((y, with_last (f y) l e) ∷ all_by f ys) ((y, f y) ∷ with_group (all_by f ys) x l e) ≡ all_by (by_more f x l e) (cond b (y ∷ ys) (y ∷ add_name ys x))
    by true q next =
        (λ j. (y, cond (sym q j) (with_last (f y) l e) (f y)) ∷ others_stay f x l e ys (ap (is_among ys) (same_names x y q) ∙ h.0) j)
    by false q next =
        let rest = next (apart_too x y q) in
        (λ j. (y, cond (sym q j) (with_last (f y) l e) (f y)) ∷ rest j)

each_own : (ms : Assignments) (l e : Tree) (ys : List Word) → all_by (by_more (λ y. own y ms) (head_of l) l e) ys ≡ all_by (λ y. own y (with_last ms l e)) ys
each_own ms l e [] = refl
each_own ms l e (y ∷ ys) = λ j. (y, sym (own_last y ms l e) j) ∷ each_own ms l e ys j

pub grouped_more : (ms : Assignments) (l e : Tree) → with_group (grouped ms) (head_of l) l e ≡ grouped (with_last ms l e)
grouped_more ms l e =
    group_added (λ y. own y ms) (head_of l) l e (heads ms) (heads_apart ms) (own_none ms (head_of l)) ∙ each_own ms l e (add_name (heads ms) (head_of l))
    ∙ ap (all_by (λ y. own y (with_last ms l e))) (sym (heads_last ms l e))

-- ---- in memory

pub last_at : (ts : List Tree) (ms : List Assignment) (m : Assignment) → assignments_at ts (ms ++ m ∷ []) ≡ with_last (assignments_at ts ms) (at ts m.left) (at ts m.right)
last_at ts [] m = refl
last_at ts (k ∷ ms) m = ap (assignment (at ts k.left) (at ts k.right)) (last_at ts ms m)

-- the group of a name, if there is one
abbrev pub group_of : List Group → Word → Option (Vec Assignment Global)
group_of gs x = lookup (equal x) gs

abbrev pub list_in : Option (Vec Assignment Global) → List Assignment
list_in None = []
list_in (Some g) = g.items

same_group : (x y : Word) (b : Bool) → equal x y ≡ b → bytes_eq x y ≡ b
same_group x y b q = sym (same_test x y) ∙ q

-- a group that is taken out and put back with one more
pub put_back : (ts : List Tree) (gs : List Group) (x : Word) (o : Option (Vec Assignment Global)) (none new : Vec Assignment Global) (m : Assignment) → o ≡ group_of gs x → new.items ≡ list_in o ++ m ∷ []
    → groups_at ts (insert_entry equal (insert_entry equal gs x none) x new) ≡ with_group (groups_at ts gs) x (at ts m.left) (at ts m.right)
put_back ts [] x o none new m is e =
    ap (λ b. groups_at ts (cond b ((x, new) ∷ []) ((x, none) ∷ (x, new) ∷ []))) (same_test x x ∙ same_itself x) ∙ ap (λ (l : List Assignment). (x, assignments_at ts l) ∷ []) (e ∙ ap (λ p. list_in p ++ m ∷ []) is)
put_back ts (g ∷ gs) x o none new m is e = by (equal x g.0) refl (λ h. put_back ts gs x o none new m h e)
  where
    by : (b : Bool) → equal x g.0 ≡ b
        → (o ≡ group_of gs x → groups_at ts (insert_entry equal (insert_entry equal gs x none) x new) ≡ with_group (groups_at ts gs) x (at ts m.left) (at ts m.right))
        → groups_at ts (insert_entry equal (cond b ((g.0, none) ∷ gs) (g ∷ insert_entry equal gs x none)) x new)
        ≡ cond (bytes_eq x g.0) ((g.0, with_last (assignments_at ts g.1.items) (at ts m.left) (at ts m.right)) ∷ groups_at ts gs) ((g.0, assignments_at ts g.1.items) ∷ with_group (groups_at ts gs) x (at ts m.left) (at ts m.right))
    by true q next =
        let found : o ≡ Some g.1 = is ∙ ap (λ b. cond b (Some g.1) (lookup (equal x) gs)) q in
        let own : assignments_at ts new.items ≡ with_last (assignments_at ts g.1.items) (at ts m.left) (at ts m.right) = ap (assignments_at ts) (e ∙ ap (λ p. list_in p ++ m ∷ []) found) ∙ last_at ts g.1.items m in
        ap (λ b. groups_at ts (cond b ((g.0, new) ∷ gs) ((g.0, none) ∷ insert_entry equal gs x new))) q
        ∙ ap (λ (os : Assignments). (g.0, os) ∷ groups_at ts gs) own
        ∙ sym (ap (λ b. cond b ((g.0, with_last (assignments_at ts g.1.items) (at ts m.left) (at ts m.right)) ∷ groups_at ts gs) ((g.0, assignments_at ts g.1.items) ∷ with_group (groups_at ts gs) x (at ts m.left) (at ts m.right))) (same_group x g.0 true q))
    by false q next =
        ap (λ b. groups_at ts (cond b ((g.0, new) ∷ insert_entry equal gs x none) (g ∷ insert_entry equal (insert_entry equal gs x none) x new))) q
        ∙ ap (λ ps. (g.0, assignments_at ts g.1.items) ∷ ps) (next (is ∙ ap (λ b. cond b (Some g.1) (lookup (equal x) gs)) q))
        ∙ sym (ap (λ b. cond b ((g.0, with_last (assignments_at ts g.1.items) (at ts m.left) (at ts m.right)) ∷ groups_at ts gs) ((g.0, assignments_at ts g.1.items) ∷ with_group (groups_at ts gs) x (at ts m.left) (at ts m.right))) (same_group x g.0 false q))

pub past_back : (gs : List Group) (x : Word) (o : Option (Vec Assignment Global)) (none new : Vec Assignment Global) (m : Assignment) → o ≡ group_of gs x → new.items ≡ list_in o ++ m ∷ []
    → past_groups (insert_entry equal (insert_entry equal gs x none) x new) ≤ max (past_groups gs) (past_assignment m)
past_back [] x o none new m is e =
    let all = ap (λ b. past_groups (cond b ((x, new) ∷ []) ((x, none) ∷ (x, new) ∷ []))) (same_test x x ∙ same_itself x) in
    let own = ap past_all (e ∙ ap (λ p. list_in p ++ m ∷ []) is) in
    omega (arith, all, own)
past_back (g ∷ gs) x o none new m is e = by (equal x g.0) refl (λ h. past_back gs x o none new m h e)
  where
    by : (b : Bool) → equal x g.0 ≡ b
        → (o ≡ group_of gs x → past_groups (insert_entry equal (insert_entry equal gs x none) x new) ≤ max (past_groups gs) (past_assignment m))
        → past_groups (insert_entry equal (cond b ((g.0, none) ∷ gs) (g ∷ insert_entry equal gs x none)) x new) ≤ max (max (past_all g.1.items) (past_groups gs)) (past_assignment m)
    by true q next =
        let found : o ≡ Some g.1 = is ∙ ap (λ b. cond b (Some g.1) (lookup (equal x) gs)) q in
        let own : past_all new.items ≡ max (past_all g.1.items) (past_assignment m) = ap past_all (e ∙ ap (λ p. list_in p ++ m ∷ []) found) ∙ past_one_more past_assignment g.1.items m in
        let all : past_groups (insert_entry equal ((g.0, none) ∷ gs) x new) ≡ max (past_all new.items) (past_groups gs) = ap (λ b. past_groups (cond b ((g.0, new) ∷ gs) ((g.0, none) ∷ insert_entry equal gs x new))) q in
        omega (arith, own, all)
    by false q next =
        let rest = next (is ∙ ap (λ b. cond b (Some g.1) (lookup (equal x) gs)) q) in
        let all : past_groups (insert_entry equal (g ∷ insert_entry equal gs x none) x new) ≡ max (past_all g.1.items) (past_groups (insert_entry equal (insert_entry equal gs x none) x new)) =
        ap (λ b. past_groups (cond b ((g.0, new) ∷ insert_entry equal gs x none) (g ∷ insert_entry equal (insert_entry equal gs x none) x new))) q in
        omega (arith, rest, all)

-- ---- the loop over assignments

pub record GroupedTo (ts : List Tree) (gs : List Group) (ms : List Assignment) : Type 0 where
  pub groups : groups_at ts gs ≡ grouped (assignments_at ts ms)
  pub within : past_groups gs ≤ length ts

pub grouped_next : (ts : List Tree) (gs hs : List Group) (ms : List Assignment) (i : ℕ) (m : Assignment) (x : Word) → GroupedTo ts gs (take i ms) → m ≡ get_or ms i m → i < length ms → x ≡ head_of (at ts m.left)
    → groups_at ts hs ≡ with_group (groups_at ts gs) x (at ts m.left) (at ts m.right) → past_groups hs ≤ max (past_groups gs) (past_assignment m) → past_all ms ≤ length ts → GroupedTo ts hs (take (i + 1) ms)
grouped_next ts gs hs ms i m x h here less name more past all =
    let next : take (i + 1) ms ≡ take i ms ++ m ∷ [] = take_more ms i m less ∙ ap (λ (k : Assignment). take i ms ++ k ∷ []) (sym here) in
    record {
      groups =
          more ∙ (λ j. with_group (h.groups j) (name j) (at ts m.left) (at ts m.right)) ∙ grouped_more (assignments_at ts (take i ms)) (at ts m.left) (at ts m.right)
          ∙ ap grouped (sym (ap (assignments_at ts) next ∙ last_at ts (take i ms) m));
      within = (let one = past_at past_assignment ms i m here less in let w = h.within in omega (arith, one, w, past, all));
    }

pub grouped_all : (ts : List Tree) (gs : List Group) (ms : List Assignment) (i : ℕ) → GroupedTo ts gs (take i ms) → length ms ≤ i → GroupedTo ts gs ms
grouped_all ts gs ms i h le = subst (GroupedTo ts gs) (take_all i ms le) h

-- ---- one assignment is added

module _ (gs fs hs : List Group) (x y : Word) (o : Option (Vec Assignment Global)) (none new : Vec Assignment Global) (m : Assignment)
    (key : y ≡ x) (old : o ≡ group_of gs y) (out : fs ≡ insert_entry equal gs y none) (back : hs ≡ insert_entry equal fs x new) (more : new.items ≡ list_in o ++ m ∷ []) where
  both : hs ≡ insert_entry equal (insert_entry equal gs x none) x new
  both = back ∙ ap (λ (l : List Group). insert_entry equal l x new) (out ∙ ap (λ k. insert_entry equal gs k none) key)

  pub added : (ts : List Tree) → groups_at ts hs ≡ with_group (groups_at ts gs) x (at ts m.left) (at ts m.right)
  added ts = ap (groups_at ts) both ∙ put_back ts gs x o none new m (old ∙ ap (group_of gs) key) more

  pub added_past : past_groups hs ≤ max (past_groups gs) (past_assignment m)
  added_past = (let e = ap past_groups both in let h = past_back gs x o none new m (old ∙ ap (group_of gs) key) more in omega (arith, e, h))
