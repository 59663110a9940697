-- The keys of a left side, as its nodes are walked.
use Rattle.std.proofs.Common.{◌≡◌, ℕ, ◌<◌, List, [], ◌∷◌, ◌++◌, length, map, get_or, refl, sym, ap, ◌∙◌, subst, arith, append-nil, append_assoc}
use Rattle.tla_token.specs.declared.place.Place.{Place}
use Rattle.tla_tree.specs.Tree.{Word, PathStep, apply, select, Form, name, strict, Tree, node, Trees, no_trees, tree}
use Rattle.tla_tree.specs.Shapes.{Shaped}
use Rattle.tla_tree.specs.Pool.{Entry, at, trees_at, tree_in, AllBelow}
use Rattle.tla_tree.proofs.PoolNumbers.{AllBelow-at, AllBelow-push}
use Rattle.action_builder.specs.Written.{Key, sub, fixed, subs, keys_of, keys_first, steps_of}
use Rattle.action_builder.specs.Assigned.{Names}
use Rattle.action_builder.specs.laws.Ready.{IsLeft, LeftFirst}
use Rattle.right_sides.specs.Keys.{rest_subs, own_keys, left_keys, first_keys, keys_along, key_trees}

-- ---- one more node

pub keys_last : (ts : List Tree) (is : List ℕ) (i : ℕ) → keys_along ts (is ++ i ∷ []) ≡ own_keys (at ts i) ++ keys_along ts is
keys_last ts [] i = sym (append-nil (own_keys (at ts i)))
keys_last ts (j ∷ is) i = ap (λ ks. ks ++ own_keys (at ts j)) (keys_last ts is i) ∙ append_assoc (own_keys (at ts i)) (keys_along ts is) (own_keys (at ts j))

pub steps_both : (ks js : List Key) → steps_of (ks ++ js) ≡ steps_of ks ++ steps_of js
steps_both [] js = refl
steps_both (sub t ∷ ks) js = ap (λ ss. PathStep.index ∷ ss) (steps_both ks js)
steps_both (fixed a ∷ ks) js = ap (λ ss. PathStep.field a ∷ ss) (steps_both ks js)

pub trees_both : (ks js : List Key) → key_trees (ks ++ js) ≡ key_trees ks ++ key_trees js
trees_both [] js = refl
trees_both (sub t ∷ ks) js = ap (λ ts. t ∷ ts) (trees_both ks js)
trees_both (fixed a ∷ ks) js = trees_both ks js

-- ---- left sides

mutual
  pub keys_left : (V : Names) (l : Tree) → IsLeft V l → left_keys l ≡ keys_of l
  keys_left V (node (name x) p ts) h = refl
  keys_left V (node (strict apply) p ts) h = keys_under V ts h
  keys_left V (node (strict (select a)) p ts) h = sym (append_assoc (first_keys ts) (rest_subs ts) (fixed a ∷ [])) ∙ ap (λ ks. ks ++ fixed a ∷ []) (keys_under V ts h)
  keys_left V (node m p ts) h = absurd h

  keys_under : (V : Names) (ts : Trees) → LeftFirst V ts → first_keys ts ++ rest_subs ts ≡ keys_first ts
  keys_under V no_trees h = absurd h
  keys_under V (tree f us) h = ap (λ ks. ks ++ subs us) (keys_left V f h)

-- ---- a field, and the second part of a node

field_of_one : (ts : List Tree) (p : Place) (a : Word) (is : List ℕ) → length is ≡ 1 → own_keys (node (strict (select a)) p (trees_at ts is)) ≡ fixed a ∷ []
field_of_one ts p a [] h = absurd (let n : ⊥ = omega (arith, h) in n)
field_of_one ts p a (i ∷ []) h = refl
field_of_one ts p a (i ∷ j ∷ is) h = absurd (let n : ⊥ = omega (arith, h) in n)

pub field_key : (ts : List Tree) (t : Tree) (n m : Entry) (a : Word) → t ≡ tree_in ts n → m ≡ n → m.form ≡ strict (select a) → Shaped n.form (length n.parts) → own_keys t ≡ fixed a ∷ []
field_key ts t n m a e v f s =
    let form : n.form ≡ strict (select a) = ap (λ (k : Entry). k.form) (sym v) ∙ f in
    let one : length n.parts ≡ 1 = subst (λ (k : Form). Shaped k (length n.parts)) form s in
    ap own_keys (e ∙ ap (λ (k : Form). node k n.place (trees_at ts n.parts)) form) ∙ field_of_one ts n.place a n.parts one

pub second_below : (m e i : ℕ) (n k : Entry) → e < m → k ≡ n → k.form ≡ strict apply → Shaped n.form (length n.parts) → AllBelow e n.parts → i ≡ get_or k.parts 1 i
    → (old new : List ℕ) → new ≡ old ++ i ∷ [] → AllBelow m old → AllBelow m new
second_below m e i n k there v f s older here old new more below =
    let form : n.form ≡ strict apply = ap (λ (k : Entry). k.form) (sym v) ∙ f in
    let two : length n.parts ≡ 2 = subst (λ (k : Form). Shaped k (length n.parts)) form s in
    let less : get_or n.parts 1 i < e = AllBelow-at e n.parts 1 i older (omega (arith, two)) in
    let same : i ≡ get_or n.parts 1 i = here ∙ ap (λ (k : Entry). get_or k.parts 1 i) v in
    subst (AllBelow m) (sym more) (AllBelow-push m old i below (omega (arith, less, same, there)))

-- ---- the walk in

-- the nodes that were passed are those from e to the one before `outer`
pub record Passed (ts : List Tree) (e outer : ℕ) (is : List ℕ) : Type 0 where
  pub keys : left_keys (at ts e) ≡ left_keys (at ts outer) ++ keys_along ts is
  pub below : AllBelow (length ts) is
  pub there : outer < length ts

pub passed_none : (ts : List Tree) (e : ℕ) (is : List ℕ) → is ≡ [] → e < length ts → Passed ts e e is
passed_none ts e is n h = record {
  keys = sym (append-nil (left_keys (at ts e))) ∙ ap (λ (js : List ℕ). left_keys (at ts e) ++ keys_along ts js) (sym n);
  below = subst (AllBelow (length ts)) (sym n) tt;
  there = h;
}

pub passed_more : (ts : List Tree) (e outer first : ℕ) (is js : List ℕ) → Passed ts e outer is → js ≡ is ++ outer ∷ [] → first < outer → left_keys (at ts outer) ≡ left_keys (at ts first) ++ own_keys (at ts outer) → Passed ts e first js
passed_more ts e outer first is js p m less step = record {
  keys =
      p.keys ∙ ap (λ ks. ks ++ keys_along ts is) step ∙ append_assoc (left_keys (at ts first)) (own_keys (at ts outer)) (keys_along ts is)
      ∙ ap (λ ks. left_keys (at ts first) ++ ks) (sym (ap (keys_along ts) m ∙ keys_last ts is outer));
  below = subst (AllBelow (length ts)) (sym m) (AllBelow-push (length ts) is outer p.below p.there);
  there = (let t = p.there in omega (arith, less, t));
}

pub passed_all : (ts : List Tree) (e outer : ℕ) (is : List ℕ) → Passed ts e outer is → left_keys (at ts outer) ≡ [] → keys_along ts is ≡ left_keys (at ts e)
passed_all ts e outer is p n = sym (p.keys ∙ ap (λ ks. ks ++ keys_along ts is) n)

-- ---- and the walk back

-- what is before the nodes that are left, of the path and of the subscripts
pub record Left (ts : List Tree) (keys : List Key) (before : List Tree) (is : List ℕ) (steps : List PathStep) (numbers : List ℕ) : Type 0 where
  pub path : steps ++ steps_of (keys_along ts is) ≡ steps_of keys
  pub subscripts : map (at ts) numbers ++ key_trees (keys_along ts is) ≡ before ++ key_trees keys
  pub within : AllBelow (length ts) numbers
  pub nodes : AllBelow (length ts) is

below_front : (m : ℕ) (is : List ℕ) (i : ℕ) → AllBelow m (is ++ i ∷ []) → AllBelow m is × (i < m)
below_front m [] i h = (tt, h.0)
below_front m (j ∷ is) i h = (let r = below_front m is i h.1 in ((h.0, r.0), r.1))

pub next_node : (ts : List Tree) (keys : List Key) (before : List Tree) (is js : List ℕ) (i : ℕ) (path : List PathStep) (subscripts : List ℕ) → Left ts keys before js path subscripts → js ≡ is ++ i ∷ [] → i < length ts
next_node ts keys before is js i path subscripts h e = (below_front (length ts) is i (subst (AllBelow (length ts)) e h.nodes)).1

pub left_less : (ts : List Tree) (keys : List Key) (before : List Tree) (is js : List ℕ) (i : ℕ) (path more : List PathStep) (subscripts others : List ℕ) → Left ts keys before js path subscripts → js ≡ is ++ i ∷ []
    → more ≡ path ++ steps_of (own_keys (at ts i)) → map (at ts) others ≡ map (at ts) subscripts ++ key_trees (own_keys (at ts i)) → AllBelow (length ts) others → Left ts keys before is more others
left_less ts keys before is js i path more subscripts others h e p s within =
    let along : keys_along ts js ≡ own_keys (at ts i) ++ keys_along ts is = ap (keys_along ts) e ∙ keys_last ts is i in
    record {
      path =
          ap (λ ss. ss ++ steps_of (keys_along ts is)) p ∙ append_assoc path (steps_of (own_keys (at ts i))) (steps_of (keys_along ts is))
          ∙ ap (λ ss. path ++ ss) (sym (ap steps_of along ∙ steps_both (own_keys (at ts i)) (keys_along ts is))) ∙ h.path;
      subscripts =
          ap (λ us. us ++ key_trees (keys_along ts is)) s ∙ append_assoc (map (at ts) subscripts) (key_trees (own_keys (at ts i))) (key_trees (keys_along ts is))
          ∙ ap (λ us. map (at ts) subscripts ++ us) (sym (ap key_trees along ∙ trees_both (own_keys (at ts i)) (keys_along ts is))) ∙ h.subscripts;
      within = within;
      nodes = (below_front (length ts) is i (subst (AllBelow (length ts)) e h.nodes)).0;
    }
