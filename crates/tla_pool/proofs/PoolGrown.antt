-- The trees of nodes, as nodes are added.
use Rattle.std.proofs.Common.{◌≡◌, ℕ, suc, zero, ◌+◌, ◌<◌, ◌≤◌, Bool, true, false, cond, List, [], ◌∷◌, ◌++◌, length, refl, sym, ap, ◌∙◌, subst, arith, length-append, append_assoc, get_or, Option, Some, None, IfSome, IfNone, ltb, true≢false, ◌≢◌}
use Rattle.std.specs.Prelude.{slice_get, unwrap_or}
use Rattle.std.specs.Borrow.{Bor}
use Rattle.std.specs.Option.{option_copied}
use Rattle.std.specs.List.{list_any, IsDistinct, AllPairs}
use Rattle.std.proofs.lemmas.List.{get_or_append_left}
use Rattle.std.proofs.lemmas.Option.{get_or_from_slice_get, slice_get_past, slice_get_within, unwrap_or-slice_get}
use Rattle.std.proofs.lemmas.Bool.Decides.{Decides-ltb}
use Rattle.std.proofs.lemmas.Map.Made.{AllPairs-from_IsDistinct}
use Rattle.std.proofs.Math.Seq.{get_or-append_seam}
use Rattle.indexmap.specs.IndexSet.{insert_key}
use Rattle.tla_tree.specs.Tree.{Tree, node, Trees, tree, number}
use Rattle.tla_tree.specs.Shapes.{Shaped}
use Rattle.tla_tree.specs.Pool.{AreShaped, Entry, same_entry, nothing, at, trees_at, tree_in, grown, AllBelow, AreOlder, Keeps, Differ}
use Rattle.tla_tree.specs.PoolEquality.{same_entry-Decides}

pub length-grown : (ts : List Tree) (ns : List Entry) → length (grown ts ns) ≡ length ts + length ns
length-grown ts [] = omega arith
length-grown ts (n ∷ ns) = omega (arith, length-grown (ts ++ tree_in ts n ∷ []) ns, length-append ts (tree_in ts n ∷ []))

pub grown-push : (ts : List Tree) (ns : List Entry) (n : Entry) → grown ts (ns ++ n ∷ []) ≡ grown ts ns ++ tree_in (grown ts ns) n ∷ []
grown-push ts [] n = refl
grown-push ts (m ∷ ns) n = grown-push (ts ++ tree_in ts m ∷ []) ns n

pub AreOlder-push : (m : ℕ) (ns : List Entry) (n : Entry) → AreOlder m ns → AllBelow (m + length ns) n.parts → AreOlder m (ns ++ n ∷ [])
AreOlder-push m [] n h k = let e : m + 0 ≡ m = omega arith in (subst (λ x. AllBelow x n.parts) e k, tt)
AreOlder-push m (x ∷ ns) n h k =
    let e : m + suc (length ns) ≡ m + 1 + length ns = omega arith in
    (h.0, AreOlder-push (m + 1) ns n h.1 (subst (λ y. AllBelow y n.parts) e k))

-- ---- trees of numbers, in a longer list
pub trees_at-front : (ts us : List Tree) (is : List ℕ) → AllBelow (length ts) is → trees_at (ts ++ us) is ≡ trees_at ts is
trees_at-front ts us [] h = refl
trees_at-front ts us (i ∷ is) h = λ j. tree (get_or_append_left ts us nothing i h.0 j) (trees_at-front ts us is h.1 j)

pub trees_at-kept : (ts us : List Tree) (is : List ℕ) → Keeps ts us → AllBelow (length ts) is → trees_at us is ≡ trees_at ts is
trees_at-kept ts us [] k h = refl
trees_at-kept ts us (i ∷ is) k h = λ j. tree (k.same i h.0 j) (trees_at-kept ts us is k h.1 j)

-- the trees that were there stay
grown_keeps : (ts : List Tree) (ns : List Entry) → (us : List Tree) × (grown ts ns ≡ ts ++ us)
grown_keeps ts [] = ([], nil ts)
  where
    nil : (ts : List Tree) → ts ≡ ts ++ []
    nil [] = refl
    nil (t ∷ ts) = ap (λ l. t ∷ l) (nil ts)
grown_keeps ts (n ∷ ns) =
    let r = grown_keeps (ts ++ tree_in ts n ∷ []) ns in
    (tree_in ts n ∷ r.0, r.1 ∙ append_assoc ts (tree_in ts n ∷ []) r.0)

pub grown-at : (ts : List Tree) (ns : List Entry) (i : ℕ) (d : Entry) → AreOlder (length ts) ns → i < length ns → at (grown ts ns) (length ts + i) ≡ tree_in (grown ts ns) (get_or ns i d)
grown-at ts [] i d h lt = absurd (omega arith)
grown-at ts (n ∷ ns) zero d h lt =
    let r = grown_keeps (ts ++ tree_in ts n ∷ []) ns in
    let whole : grown ts (n ∷ ns) ≡ ts ++ tree_in ts n ∷ r.0 = r.1 ∙ append_assoc ts (tree_in ts n ∷ []) r.0 in
    let e : length ts + 0 ≡ length ts = omega arith in
    ap (at (grown ts (n ∷ ns))) e ∙ ap (λ l. at l (length ts)) whole ∙ get_or-append_seam ts (tree_in ts n) r.0 nothing ∙ sym (ap (λ l. tree_in l n) whole ∙ ap (node n.form n.place) (trees_at-front ts (tree_in ts n ∷ r.0) n.parts h.0))
grown-at ts (n ∷ ns) (suc i) d h lt =
    let len : length (ts ++ tree_in ts n ∷ []) ≡ length ts + 1 = length-append ts (tree_in ts n ∷ []) in
    let e : length ts + suc i ≡ length (ts ++ tree_in ts n ∷ []) + i = omega (arith, len) in
    ap (at (grown ts (n ∷ ns))) e ∙ grown-at (ts ++ tree_in ts n ∷ []) ns i d (subst (λ m. AreOlder m ns) (sym len) h.1) (omega arith)

pub older-at : (m : ℕ) (ns : List Entry) (i : ℕ) (d : Entry) → AreOlder m ns → i < length ns → AllBelow (m + i) (get_or ns i d).parts
older-at m [] i d h lt = absurd (omega arith)
older-at m (n ∷ ns) zero d h lt = let e : m ≡ m + 0 = omega arith in subst (λ x. AllBelow x n.parts) e h.0
older-at m (n ∷ ns) (suc i) d h lt = let e : m + 1 + i ≡ m + suc i = omega arith in subst (λ x. AllBelow x (get_or ns i d).parts) e (older-at (m + 1) ns i d h.1 (omega arith))

-- ---- the pool's facts
pub node-at : (ns : List Entry) (i : ℕ) (d : Entry) → AreOlder 0 ns → i < length ns → at (grown [] ns) i ≡ tree_in (grown [] ns) (get_or ns i d)
node-at ns i d h lt = let e : 0 + i ≡ i = omega arith in ap (at (grown [] ns)) (sym e) ∙ grown-at [] ns i d h lt

pub node-older : (ns : List Entry) (i : ℕ) (d : Entry) → AreOlder 0 ns → i < length ns → AllBelow i (get_or ns i d).parts
node-older ns i d h lt = let e : 0 + i ≡ i = omega arith in subst (λ x. AllBelow x (get_or ns i d).parts) e (older-at 0 ns i d h lt)

pub got-below : (ns : List Entry) (i : ℕ) (k : Entry) → AreOlder 0 ns → i < length ns → slice_get ns i ≡ Some k → AllBelow i k.parts
got-below ns i k h lt e = subst (λ n. AllBelow i n.parts) (get_or_from_slice_get ns i k k e) (node-older ns i k h lt)

pub got-tree : (ns : List Entry) (i : ℕ) (k : Entry) → AreOlder 0 ns → i < length ns → slice_get ns i ≡ Some k → at (grown [] ns) i ≡ tree_in (grown [] ns) k
got-tree ns i k h lt e = node-at ns i k h lt ∙ ap (tree_in (grown [] ns)) (get_or_from_slice_get ns i k k e)

pub Keeps-same : (ts : List Tree) → Keeps ts ts
Keeps-same ts = record { longer = omega arith; same = λ i h. refl }

pub Keeps-push : (ts us : List Tree) → Keeps ts (ts ++ us)
Keeps-push ts us = record { longer = omega (arith, length-append ts us); same = λ i h. get_or_append_left ts us nothing i h }

pub Keeps-insert : (ns ms : List Entry) (n : Entry) → ms ≡ insert_key same_entry ns n → Keeps (grown [] ns) (grown [] ms)
Keeps-insert ns ms n e = by (list_any (same_entry n) ns) e
  where
    by : (b : Bool) → ms ≡ cond b ns (ns ++ n ∷ []) → Keeps (grown [] ns) (grown [] ms)
    by true p = subst (λ l. Keeps (grown [] ns) (grown [] l)) (sym p) (Keeps-same (grown [] ns))
    by false p = subst (Keeps (grown [] ns)) (sym (ap (grown []) p ∙ grown-push [] ns n)) (Keeps-push (grown [] ns) (tree_in (grown [] ns) n ∷ []))

pub AreOlder-insert : (ns ms : List Entry) (n : Entry) → AreOlder 0 ns → AllBelow (length (grown [] ns)) n.parts → ms ≡ insert_key same_entry ns n → AreOlder 0 ms
AreOlder-insert ns ms n h k e = by (list_any (same_entry n) ns) e
  where
    by : (b : Bool) → ms ≡ cond b ns (ns ++ n ∷ []) → AreOlder 0 ms
    by true p = subst (AreOlder 0) (sym p) h
    by false p = subst (AreOlder 0) (sym p) (AreOlder-push 0 ns n h (subst (λ m. AllBelow m n.parts) (length-grown [] ns) k))

pub put-tree : (ns ms : List Entry) (n k : Entry) (i : ℕ) → AreOlder 0 ms → AllBelow (length (grown [] ns)) n.parts → Keeps (grown [] ns) (grown [] ms) → i < length ms
    → slice_get ms i ≡ Some k → same_entry n k ≡ true → at (grown [] ms) i ≡ node n.form n.place (trees_at (grown [] ns) n.parts)
put-tree ns ms n k i older below keeps lt there same =
    let is : get_or ms i k ≡ n = get_or_from_slice_get ms i k k there ∙ sym ((same_entry-Decides n k).0 same) in
    node-at ms i k older lt ∙ ap (tree_in (grown [] ms)) is ∙ ap (node n.form n.place) (trees_at-kept (grown [] ns) (grown [] ms) n.parts keeps below)

-- ---- different numbers, different trees
forms_same : (m n : Entry) (ts us : Trees) → node m.form m.place ts ≡ node n.form n.place us → m.form ≡ n.form
forms_same m n ts us e = cc

places_same : (m n : Entry) (ts us : Trees) → node m.form m.place ts ≡ node n.form n.place us → m.place ≡ n.place
places_same m n ts us e = cc

parts_same : (m n : Entry) (ts us : Trees) → node m.form m.place ts ≡ node n.form n.place us → ts ≡ us
parts_same m n ts us e = cc

numbers_same : (ts : List Tree) (a b : ℕ) → ((i j : ℕ) → i < a → j < b → at ts i ≡ at ts j → i ≡ j) → (is js : List ℕ) → AllBelow a is → AllBelow b js → trees_at ts is ≡ trees_at ts js → is ≡ js
numbers_same ts a b f [] [] h k e = refl
numbers_same ts a b f [] (j ∷ js) h k e = cc
numbers_same ts a b f (i ∷ is) [] h k e = cc
numbers_same ts a b f (i ∷ is) (j ∷ js) h k e =
    let first : at ts i ≡ at ts j = cc in
    let rest : trees_at ts is ≡ trees_at ts js = cc in
    λ x. f i j h.0 k.0 first x ∷ numbers_same ts a b f is js h.1 k.1 rest x

entries_same : (m n : Entry) → m.form ≡ n.form → m.place ≡ n.place → m.parts ≡ n.parts → m ≡ n
entries_same m n f p q = λ i. record { form = f i; place = p i; parts = q i }

module _ (ns : List Entry) (older : AreOlder 0 ns) (apart : AllPairs (λ x y. x ≢ y) ns) where
  nodes_apart : (i j : ℕ) (d : Entry) → i < length ns → j < length ns → get_or ns i d ≡ get_or ns j d → i ≡ j
  nodes_apart i j d il jl e = by (ltb i j) (ltb j i) refl refl
    where
      by : (a b : Bool) → ltb i j ≡ a → ltb j i ≡ b → i ≡ j
      by true b p q = absurd (apart i j d ((Decides-ltb i j).0 p) jl e)
      by false true p q = absurd (apart j i d ((Decides-ltb j i).0 q) il (sym e))
      by false false p q =
          let f : ltb i j ≡ true → ⊥ = λ h. true≢false (sym h ∙ p) in
          let g : ltb j i ≡ true → ⊥ = λ h. true≢false (sym h ∙ q) in
          let m : (i < j) → ⊥ = λ h. f ((Decides-ltb i j).1 h) in
          let n : (j < i) → ⊥ = λ h. g ((Decides-ltb j i).1 h) in
          omega (arith, m, n)

  apart_below : (b i j : ℕ) → i < b → j < b → i < length ns → j < length ns → at (grown [] ns) i ≡ at (grown [] ns) j → i ≡ j
  apart_below zero i j ib jb il jl e = absurd (omega arith)
  apart_below (suc b) i j ib jb il jl e =
      let d : Entry = record { form = number 0; place = record { line = 0; col = 0 }; parts = [] } in
      let ts = grown [] ns in
      let m = get_or ns i d in
      let n = get_or ns j d in
      let trees : tree_in ts m ≡ tree_in ts n = sym (node-at ns i d older il) ∙ e ∙ node-at ns j d older jl in
      let parts : m.parts ≡ n.parts = numbers_same ts i j (λ k l kb lb f. apart_below b k l (omega arith) (omega arith) (omega arith) (omega arith) f) m.parts n.parts (node-older ns i d older il) (node-older ns j d older jl) (parts_same m n _ _ trees) in
      nodes_apart i j d il jl (entries_same m n (forms_same m n _ _ trees) (places_same m n _ _ trees) parts)

pub Differ-grown : (ns : List Entry) → AreOlder 0 ns → IsDistinct same_entry ns → Differ (grown [] ns)
Differ-grown ns older distinct i j il jl e =
    let len : length (grown [] ns) ≡ length ns = omega (arith, length-grown [] ns) in
    apart_below ns older (AllPairs-from_IsDistinct same_entry-Decides ns distinct) (suc (i + j)) i j (omega arith) (omega arith) (omega arith) (omega arith) e

AreShaped-push : (ns : List Entry) (n : Entry) → AreShaped ns → Shaped n.form (length n.parts) → AreShaped (ns ++ n ∷ [])
AreShaped-push [] n h k = (k, tt)
AreShaped-push (m ∷ ns) n h k = (h.0, AreShaped-push ns n h.1 k)

pub AreShaped-insert : (ns ms : List Entry) (n : Entry) → AreShaped ns → Shaped n.form (length n.parts) → ms ≡ insert_key same_entry ns n → AreShaped ms
AreShaped-insert ns ms n h k e = by (list_any (same_entry n) ns) e
  where
    by : (b : Bool) → ms ≡ cond b ns (ns ++ n ∷ []) → AreShaped ms
    by true p = subst AreShaped (sym p) h
    by false p = subst AreShaped (sym p) (AreShaped-push ns n h k)

pub got-shaped : (ns : List Entry) (i : ℕ) (k : Entry) → AreShaped ns → slice_get ns i ≡ Some k → Shaped k.form (length k.parts)
got-shaped [] i k h e = cc
got-shaped (n ∷ ns) zero k h e = let p : n ≡ k = cc in subst (λ (m : Entry). Shaped m.form (length m.parts)) p h.0
got-shaped (n ∷ ns) (suc i) k h e = got-shaped ns i k h.1 e

-- ---- what is found of a number, if there is a node
pub some_tree : (ns : List Entry) (i : ℕ) (o : Option (Bor Entry)) → AreOlder 0 ns → option_copied o ≡ slice_get ns i → IfSome o (λ n. at (grown [] ns) i ≡ tree_in (grown [] ns) n.now)
some_tree ns i None h e = tt
some_tree ns i (Some n) h e = got-tree ns i n.now h (slice_get_within ns i n.now (sym e)) (sym e)

pub some_older : (ns : List Entry) (i : ℕ) (o : Option (Bor Entry)) → AreOlder 0 ns → option_copied o ≡ slice_get ns i → IfSome o (λ n. AllBelow i n.now.parts)
some_older ns i None h e = tt
some_older ns i (Some n) h e = got-below ns i n.now h (slice_get_within ns i n.now (sym e)) (sym e)

pub some_shaped : (ns : List Entry) (i : ℕ) (o : Option (Bor Entry)) → AreShaped ns → option_copied o ≡ slice_get ns i → IfSome o (λ n. Shaped n.now.form (length n.now.parts))
some_shaped ns i None h e = tt
some_shaped ns i (Some n) h e = got-shaped ns i n.now h (sym e)

past_grown : (ns : List Entry) (i : ℕ) → length ns ≤ i → at (grown [] ns) i ≡ nothing
past_grown ns i l = sym (unwrap_or-slice_get (grown [] ns) i nothing) ∙ ap (λ (o : Option Tree). unwrap_or o nothing) (slice_get_past (grown [] ns) i (omega (arith, l, length-grown [] ns)))

pub none_tree : (ns : List Entry) (i : ℕ) (o : Option (Bor Entry)) → option_copied o ≡ slice_get ns i → IfNone o (at (grown [] ns) i ≡ nothing)
none_tree ns i None e = past_grown ns i (none_past ns i (sym e))
  where
    none_past : (ms : List Entry) (j : ℕ) → slice_get ms j ≡ None → length ms ≤ j
    none_past [] j n = omega arith
    none_past (m ∷ ms) zero n = cc
    none_past (m ∷ ms) (suc j) n = let l = none_past ms j n in omega (arith, l)
none_tree ns i (Some n) e = tt
