-- How deep an expression nests, part by part, by a table of definitions and the names that are bound around.
use Rattle.std.proofs.lemmas.Simd.{map-map}
use Rattle.std.proofs.Common.{◌≡◌, ℕ, zero, suc, ◌+◌, ◌-◌, ◌<◌, ◌≤◌, max, min, Bool, true, false, ◌||◌, List, [], ◌∷◌, ◌++◌, length, map, take, drop, get_or, refl, sym, ap, ◌∙◌, subst, arith, cond, bytes_eq, append-nil, append_assoc, length-append, lt-ltb, le-ltb}
use Rattle.std.specs.List.{list_any, flat_map}
use Rattle.std.proofs.lemmas.List.{drop_more, drop_all, length-map}
use Rattle.std.proofs.lemmas.List.Folds.{list_any-append}
use Rattle.std.proofs.Math.Seq.{take-append_seam}
use Rattle.tla_token.specs.declared.place.Place.{Place}
use Rattle.tla_tree.specs.declared.op.Binder.{Binder}
use Rattle.tla_tree.specs.declared.op.Binder.TheVariants as binder
use Rattle.tla_tree.specs.Tree.{Name, Word, words, Form, name, operator_call, binding, local, Tree, node, beginnings, seen_names}
use Rattle.tla_tree.specs.TreeOf.{trees_from}
use Rattle.tla_tree.specs.Shapes.{BinderShaped, Shaped}
use Rattle.tla_tree.specs.Pool.{Entry, at, trees_at, tree_in}
use Rattle.tla_value.specs.DefinitionNesting.{Depths, depth_of_use, hidden, used, nests, nest}
use Rattle.algorithm_limits.specs.Numbers.{Numbers, number_of}
use Rattle.algorithm_limits.specs.DepthsIn.{used_in, AreDepths, seen_by, nest_from, Hides}
use Rattle.algorithm_limits.proofs.Tables.{equal, same_test}

-- ---- each part with the names that it sees

plain_nest : (m : Form) → ((i : ℕ) → seen_by m i ≡ []) → (i : ℕ) (us : List Tree) (ds : Depths) → nest [] (trees_from us) ds ≡ nest_from m i (trees_from us) ds
plain_nest m h i [] ds = refl
plain_nest m h i (u ∷ us) ds = λ k. max (1 + nests u (hidden (sym (h i) k) ds)) (plain_nest m h (suc i) us ds k)

-- sets, and the body behind them
binder_nest : (b : Binder) (all gs : List (List Name)) (i : ℕ) (us : List Tree) (ds : Depths) → i + length gs ≡ length all → length us ≡ suc (length gs)
    → nest (map (λ (xs : List Name). []) gs ++ flat_map words all ∷ []) (trees_from us) ds ≡ nest_from (binding b all) i (trees_from us) ds
binder_nest b all gs i [] ds e l = absurd (omega (arith, l))
binder_nest b all [] i (u ∷ v ∷ us) ds e l = absurd (omega (arith, l))
binder_nest b all [] i (u ∷ []) ds e l = ap (λ (t : Bool). max (1 + nests u (hidden (cond t [] (flat_map words all)) ds)) 0) (sym (le-ltb i (length all) (omega (arith, e))))
binder_nest b all (g ∷ gs) i (u ∷ us) ds e l =
    λ k. max (1 + nests u (hidden (cond (sym (lt-ltb i (length all) (omega (arith, e))) k) [] (flat_map words all)) ds)) (binder_nest b all gs (suc i) us ds (omega (arith, e)) (omega (arith, l)) k)

seen_local : (xs : List Name) (pre ws : List Word) (i : ℕ) → words xs ≡ pre ++ ws → length pre ≡ i → seen_by (local xs) i ≡ pre
seen_local xs pre ws i e n = words_taken xs i ∙ ap (take i) e ∙ ap (λ (k : ℕ). take k (pre ++ ws)) (sym n) ∙ take-append_seam pre ws
  where
    words_taken : (xs : List Name) (i : ℕ) → words (take i xs) ≡ take i (words xs)
    words_taken xs zero = refl
    words_taken [] (suc i) = refl
    words_taken (x ∷ xs) (suc i) = ap (λ (ws : List Word). x.word ∷ ws) (words_taken xs i)

-- the names of a LET, each behind those before it
local_nest : (xs : List Name) (pre ws : List Word) (i : ℕ) (us : List Tree) (ds : Depths) → words xs ≡ pre ++ ws → length pre ≡ i → length us ≡ suc (length ws)
    → nest (map (λ (ys : List Word). pre ++ ys) (beginnings ws)) (trees_from us) ds ≡ nest_from (local xs) i (trees_from us) ds
local_nest xs pre ws i [] ds e n l = absurd (omega (arith, l))
local_nest xs pre [] i (u ∷ v ∷ us) ds e n l = absurd (omega (arith, l))
local_nest xs pre [] i (u ∷ []) ds e n l = ap (λ (ys : List Word). max (1 + nests u (hidden ys ds)) 0) (append-nil pre ∙ sym (seen_local xs pre [] i e n))
local_nest xs pre (w ∷ ws) i (u ∷ us) ds e n l =
    λ k. max (1 + nests u (hidden ((append-nil pre ∙ sym (seen_local xs pre (w ∷ ws) i e n)) k) ds)) ((regrouped ∙ local_nest xs (pre ++ w ∷ []) ws (suc i) us ds (e ∙ sym (append_assoc pre (w ∷ []) ws)) (let a = length-append pre (w ∷ []) in omega (arith, n)) (omega (arith, l))) k)
  where
    regrouped : nest (map (λ (ys : List Word). pre ++ ys) (map (λ (ys : List Word). w ∷ ys) (beginnings ws))) (trees_from us) ds ≡ nest (map (λ (ys : List Word). (pre ++ w ∷ []) ++ ys) (beginnings ws)) (trees_from us) ds
    regrouped = ap (λ (l : List (List Word)). nest l (trees_from us) ds) (map-map _ _ (beginnings ws) ∙ same (beginnings ws))
      where
        same : (l : List (List Word)) → map (λ (ys : List Word). pre ++ w ∷ ys) l ≡ map (λ (ys : List Word). (pre ++ w ∷ []) ++ ys) l
        same [] = refl
        same (ys ∷ l) = λ k. sym (append_assoc pre (w ∷ []) ys) k ∷ same l k

shaped_binder : (b : Binder) (gs : List (List Name)) (n : ℕ) → BinderShaped b gs n → n ≡ suc (length gs)
shaped_binder binder.Filter [] n h = absurd h.0
shaped_binder binder.Filter ([] ∷ gs) n h = absurd h.0
shaped_binder binder.Filter ((x ∷ []) ∷ []) n h = h.1
shaped_binder binder.Filter ((x ∷ []) ∷ g ∷ gs) n h = absurd h.0
shaped_binder binder.Filter ((x ∷ y ∷ xs) ∷ gs) n h = absurd h.0
shaped_binder b gs n h = h.1

pub nest_is_from : (m : Form) (us : List Tree) (ds : Depths) → Shaped m (length us) → nest (seen_names m) (trees_from us) ds ≡ nest_from m 0 (trees_from us) ds
nest_is_from (binding b gs) us ds h = binder_nest b gs gs 0 us ds (omega arith) (shaped_binder b gs (length us) h)
nest_is_from (local xs) us ds h = ap (λ (l : List (List Word)). nest l (trees_from us) ds) (sym (same (beginnings (words xs)))) ∙ local_nest xs [] (words xs) 0 us ds refl refl (h.1 ∙ ap suc (sym (length-map xs (λ (x : Name). x.word))))
  where
    same : (l : List (List Word)) → map (λ (ys : List Word). ys) l ≡ l
    same [] = refl
    same (ys ∷ l) = ap (λ (r : List (List Word)). ys ∷ r) (same l)
nest_is_from m us ds h = plain_nest m (λ i. refl) 0 us ds

-- ---- the table and the bound names

hidden_depth : (xs : List Word) (ds : Depths) (x : Word) → depth_of_use (hidden xs ds) x ≡ cond (list_any (equal x) xs) 0 (depth_of_use ds x)
hidden_depth [] ds x = refl
hidden_depth (y ∷ xs) ds x = either_of (bytes_eq y x) (equal x y) (list_any (equal x) xs) (depth_of_use (hidden xs ds) x) (depth_of_use ds x) (same_test x y) (hidden_depth xs ds x)
  where
    either_of : (a b c : Bool) (d e : ℕ) → b ≡ a → d ≡ cond c 0 e → cond a 0 d ≡ cond (b || c) 0 e
    either_of true b c d e h k = ap (λ (t : Bool). cond (t || c) 0 e) (sym h)
    either_of false b c d e h k = k ∙ ap (λ (t : Bool). cond (t || c) 0 e) (sym h)

pub depths_hidden : (most : ℕ) (es : Numbers) (old new xs : List Word) (ds : Depths) → Hides old new xs → AreDepths most es old ds → AreDepths most es new (hidden xs ds)
depths_hidden most es old new xs ds h a x =
    ap (min most) (hidden_depth xs ds x)
    ∙ by (list_any (equal x) old) (list_any (equal x) xs) (depth_of_use ds x) (number_of es x) (a x)
    ∙ ap (λ (t : Bool). min most (cond t 0 (number_of es x))) (sym (h.has x ∙ list_any-append (equal x) old xs))
  where
    by : (a b : Bool) (d n : ℕ) → min most d ≡ min most (cond a 0 n) → min most (cond b 0 d) ≡ min most (cond (a || b) 0 n)
    by true true d n e = refl
    by true false d n e = e
    by false true d n e = refl
    by false false d n e = e

used_depth : (most : ℕ) (es : Numbers) (hs : List Word) (ds : Depths) → AreDepths most es hs ds → (m : Form) → min most (used ds m) ≡ min most (used_in es hs m)
used_depth most es hs ds a (name x) = a x
used_depth most es hs ds a (operator_call f) = a f
used_depth most es hs ds a m = refl

-- ---- a node, by its parts

pub node_nests : (limit most : ℕ) (es : Numbers) (hs : List Word) (m : Form) (p : Place) (us : List Tree) (own parts n : ℕ) → most ≤ limit → Shaped m (length us) → own ≡ used_in es hs m
    → ((ds : Depths) → AreDepths limit es hs ds → min most parts ≡ min most (nest_from m 0 (trees_from us) ds)) → n ≡ min most (max own parts)
    → (ds : Depths) → AreDepths limit es hs ds → n ≡ min most (nests (node m p (trees_from us)) ds)
node_nests limit most es hs m p us own parts n l s o k e ds a =
    let u = used_depth limit es hs ds a m in
    let f = nest_is_from m us ds s in
    let g = k ds a in
    omega arith

-- the same of a node of a pool
pub node_found : (most : ℕ) (es : Numbers) (hs : List Word) (ts : List Tree) (e : ℕ) (n : Entry) (m : Form) (ids : List ℕ) (own parts depth : ℕ) → 0 < most → most ≤ 501 → at ts e ≡ tree_in ts n → Shaped n.form (length n.parts) → m ≡ n.form → ids ≡ n.parts
    → own ≡ used_in es hs m → ((ds : Depths) → AreDepths 501 es hs ds → min (most - 1 + 1) parts ≡ min (most - 1 + 1) (nest_from m 0 (trees_at ts ids) ds)) → depth ≡ min most (max own parts)
    → (ds : Depths) → AreDepths 501 es hs ds → depth ≡ min most (nests (at ts e) ds)
node_found most es hs ts e n m ids own parts depth z l is s f g o k d ds a =
    let q : most - 1 + 1 ≡ most = omega (arith, z) in
    node_nests 501 most es hs n.form n.place (map (at ts) n.parts) own parts depth l (subst (λ (c : ℕ). Shaped n.form c) (sym (length-map n.parts (at ts))) s) (o ∙ ap (used_in es hs) f)
    (λ bs b. ap (λ (c : ℕ). min c parts) (sym q) ∙ k bs b ∙ (λ i. min (q i) (nest_from (f i) 0 (trees_at ts (g i)) bs))) d ds a
    ∙ ap (λ (t : Tree). min most (nests t ds)) (sym is)

-- ---- one part more

pub part_nests : (limit most : ℕ) (es : Numbers) (old now : List Word) (m : Form) (ts : List Tree) (ids : List ℕ) (i e part deepest : ℕ) → e ≡ get_or ids i e → i < length ids → Hides old now (seen_by m i)
    → ((ds : Depths) → AreDepths limit es now ds → part ≡ min most (nests (at ts e) ds))
    → ((ds : Depths) → AreDepths limit es old ds → min (most + 1) (max deepest (nest_from m i (trees_at ts (drop i ids)) ds)) ≡ min (most + 1) (nest_from m 0 (trees_at ts ids) ds))
    → (ds : Depths) → AreDepths limit es old ds → min (most + 1) (max (max deepest (part + 1)) (nest_from m (i + 1) (trees_at ts (drop (i + 1) ids)) ds)) ≡ min (most + 1) (nest_from m 0 (trees_at ts ids) ds)
part_nests limit most es old now m ts ids i e part deepest is l h k inv ds a =
    let p = k (hidden (seen_by m i) ds) (depths_hidden limit es old now (seen_by m i) ds h a) in
    let j : i + 1 ≡ suc i = omega arith in
    let q : nest_from m (i + 1) (trees_at ts (drop (i + 1) ids)) ds ≡ nest_from m (suc i) (trees_at ts (drop (i + 1) ids)) ds = ap (λ (n : ℕ). nest_from m n (trees_at ts (drop (i + 1) ids)) ds) j in
    let r : nest_from m i (trees_at ts (drop i ids)) ds ≡ max (1 + nests (at ts e) (hidden (seen_by m i) ds)) (nest_from m (suc i) (trees_at ts (drop (i + 1) ids)) ds) =
    ap (λ (js : List ℕ). nest_from m i (trees_at ts js) ds) (drop_more ids i e l ∙ ap (λ (z : ℕ). z ∷ drop (i + 1) ids) (sym is)) in
    let v = inv ds a in
    omega arith

pub parts_done : (most : ℕ) (m : Form) (ts : List Tree) (ids : List ℕ) (i deepest : ℕ) (ds : Depths) → length ids ≤ i
    → min (most + 1) (max deepest (nest_from m i (trees_at ts (drop i ids)) ds)) ≡ min (most + 1) (nest_from m 0 (trees_at ts ids) ds) → min (most + 1) deepest ≡ min (most + 1) (nest_from m 0 (trees_at ts ids) ds)
parts_done most m ts ids i deepest ds l e =
    let r : nest_from m i (trees_at ts (drop i ids)) ds ≡ 0 = ap (λ (js : List ℕ). nest_from m i (trees_at ts js) ds) (drop_all i ids l) in omega arith
