-- The parts of an EXCEPT, and the right side that is written for a variable.
use Rattle.std.proofs.Common.{◌≡◌, ℕ, ◌+◌, ◌<◌, ◌≤◌, List, [], ◌∷◌, ◌++◌, length, map, get_or, take, nat_eq, true, false, cond, refl, sym, ap, ◌∙◌, subst, arith, append-nil, append_assoc, length-append, eqb-true}
use Rattle.std.proofs.lemmas.List.{take_more, take_all, map_push, length-map}
use Rattle.std.proofs.lemmas.Grind.{flat_map-append}
use Rattle.tla_token.specs.declared.place.Place.{Place}
use Rattle.tla_token.specs.Places.{nowhere}
use Rattle.tla_tree.specs.Tree.{Word, Slot, except, name, strict, Tree, node, no_trees, tree, root_place}
use Rattle.tla_tree.specs.TreeOf.{trees_from}
use Rattle.tla_tree.specs.Shapes.{HasPath, HavePaths, settings}
use Rattle.tla_tree.specs.Shapes as shape
use Rattle.tla_tree.specs.Pool.{at, AllBelow, Keeps}
use Rattle.tla_tree.proofs.PoolNumbers.{past_at}
use Rattle.pcal_tree.specs.declared.algorithm.Assignment.{Assignment}
use Rattle.pcal_tree.specs.Algorithm.{no_assignments, assignment}
use Rattle.pcal_tree.specs.InMemory.{assignments_at, past_assignment}
use Rattle.pcal_tree.proofs.InMemoryGrown.{assignments_at-kept}
use Rattle.tla_pool.specs.declared.form.Slot as code_slot
use Rattle.tla_pool.specs.declared.form.Step.{Step}
use Rattle.tla_pool.specs.FormOf.{slot_of, slots_of as slots_in, steps_of as path_of}
use Rattle.action_builder.specs.Written.{Key, sub, fixed, keys_of, steps_of, subscripts, slots_of, slot_trees, except_of, sets_whole, side_of}
use Rattle.action_builder.specs.laws.InParts.{SomeKeys}
use Rattle.right_sides.specs.Groups.{past_all}
use Rattle.right_sides.specs.Keys.{left_keys, key_trees}
use Rattle.right_sides.specs.Parts.{slot_for, trees_for, slot_at, parts_at, slots_at, all_parts_at, AreKeyed, IsPlain}

-- ---- one slot

no_path : (keys : List Key) → steps_of keys ≡ [] → keys ≡ []
no_path [] h = refl
no_path (sub t ∷ ks) h = absurd cc
no_path (fixed a ∷ ks) h = absurd cc

empty_path : (ss : List Step) (n : ℕ) → nat_eq n 0 ≡ true → n ≡ length ss → path_of ss ≡ []
empty_path [] n h e = refl
empty_path (s ∷ ss) n h e = absurd (let k = eqb-true n 0 h in let no : ⊥ = omega (arith, k, e) in no)

pub no_keys : (ss : List Step) (n : ℕ) (keys : List Key) → nat_eq n 0 ≡ true → n ≡ length ss → path_of ss ≡ steps_of keys → keys ≡ []
no_keys ss n keys h e p = no_path keys (sym p ∙ empty_path ss n h e)

full_path : (ss : List Step) (n : ℕ) → nat_eq n 0 ≡ false → n ≡ length ss → path_of ss ≡ [] → ⊥
full_path [] n h e p = (let no : true ≡ false = ap (λ (k : ℕ). nat_eq k 0) (sym e) ∙ h in absurd cc)
full_path (s ∷ ss) n h e p = absurd cc

pub some_keys : (ss : List Step) (n : ℕ) (keys : List Key) → nat_eq n 0 ≡ false → n ≡ length ss → path_of ss ≡ steps_of keys → SomeKeys keys
some_keys ss n [] h e p = full_path ss n h e p
some_keys ss n (k ∷ ks) h e p = tt

pub trees_with_keys : (keys : List Key) (e : Tree) → SomeKeys keys → trees_for keys e ≡ key_trees keys ++ (e ∷ [])
trees_with_keys [] e h = absurd h
trees_with_keys (k ∷ ks) e h = refl

pub slot_with_keys : (keys : List Key) (p : Place) → SomeKeys keys → slot_for keys p ≡ record { path = steps_of keys; place = p } ∷ []
slot_with_keys [] p h = absurd h
slot_with_keys (k ∷ ks) p h = refl

-- the right side goes behind the subscripts
pub parts_more : (ts : List Tree) (old some new : List ℕ) (e : ℕ) (keys : List Key) → SomeKeys keys → map (at ts) some ≡ map (at ts) old ++ key_trees keys → new ≡ some ++ e ∷ []
    → map (at ts) new ≡ map (at ts) old ++ trees_for keys (at ts e)
parts_more ts old some new e keys h s m =
    ap (map (at ts)) m ∙ map_push (at ts) some e ∙ ap (λ us. us ++ at ts e ∷ []) s ∙ append_assoc (map (at ts) old) (key_trees keys) (at ts e ∷ []) ∙ ap (λ us. map (at ts) old ++ us) (sym (trees_with_keys keys (at ts e) h))

-- ---- as many parts as the slots ask for

tree_count : (keys : List Key) → length (key_trees keys) ≡ shape.subscripts (steps_of keys)
tree_count [] = refl
tree_count (sub t ∷ ks) = (let h = tree_count ks in omega (arith, h))
tree_count (fixed a ∷ ks) = tree_count ks

slot_count : (keys : List Key) (p : Place) (e : Tree) (ss : List Slot) → settings (slot_for keys p ++ ss) ≡ length (trees_for keys e) + settings ss
slot_count [] p e ss = omega arith
slot_count (k ∷ ks) p e ss =
    let h = tree_count (k ∷ ks) in
    let n = length-append (key_trees (k ∷ ks)) (e ∷ []) in
    omega (arith, h, n)

slots_count : (ts : List Tree) (ms : List Assignment) → settings (slots_at ts ms) ≡ length (all_parts_at ts ms)
slots_count ts [] = refl
slots_count ts (m ∷ ms) =
    let h = slot_count (left_keys (at ts m.left)) (root_place (at ts m.left)) (at ts m.right) (slots_at ts ms) in
    let n = length-append (parts_at ts m) (all_parts_at ts ms) in
    let r = slots_count ts ms in
    omega (arith, h, n, r)

-- ---- each slot has a path

one_path : (k : Key) (ks : List Key) → HasPath (steps_of (k ∷ ks))
one_path (sub t) ks = tt
one_path (fixed a) ks = tt

with_path : (s : Slot) (ss : List Slot) → HasPath s.path → ((ss ≡ [] → ⊥) → HavePaths ss) → HavePaths (s ∷ ss)
with_path s [] h f = h
with_path s (t ∷ ss) h f = (h, f (λ e. absurd cc))

slot_paths : (keys : List Key) (p : Place) (ss : List Slot) → ((ss ≡ [] → ⊥) → HavePaths ss) → (slot_for keys p ++ ss ≡ [] → ⊥) → HavePaths (slot_for keys p ++ ss)
slot_paths [] p ss f h = f h
slot_paths (k ∷ ks) p ss f h = with_path (record { path = steps_of (k ∷ ks); place = p }) ss (one_path k ks) f

pub have_paths : (ts : List Tree) (ms : List Assignment) → (slots_at ts ms ≡ [] → ⊥) → HavePaths (slots_at ts ms)
have_paths ts [] h = absurd (h refl)
have_paths ts (m ∷ ms) h = slot_paths (left_keys (at ts m.left)) (root_place (at ts m.left)) (slots_at ts ms) (have_paths ts ms) h

-- ---- the loop over the assignments of one variable

-- the slots, and the number of the variable with the parts behind it
pub record Made (ts : List Tree) (whole : ℕ) (slots : List Slot) (parts : List ℕ) (ms : List Assignment) : Type 0 where
  pub slots_are : slots ≡ slots_at ts ms
  pub parts_are : map (at ts) parts ≡ at ts whole ∷ all_parts_at ts ms
  pub below : AllBelow (length ts) parts

pub made_more : (ts : List Tree) (whole : ℕ) (slots others : List Slot) (parts more : List ℕ) (ms : List Assignment) (i : ℕ) (m : Assignment) → Made ts whole slots parts (take i ms) → m ≡ get_or ms i m → i < length ms
    → others ≡ slots ++ slot_at ts m → map (at ts) more ≡ map (at ts) parts ++ parts_at ts m → AllBelow (length ts) more → Made ts whole others more (take (i + 1) ms)
made_more ts whole slots others parts more ms i m h here less s p below =
    let next : take (i + 1) ms ≡ take i ms ++ m ∷ [] = take_more ms i m less ∙ ap (λ (k : Assignment). take i ms ++ k ∷ []) (sym here) in
    record {
      slots_are =
          s ∙ (λ j. h.slots_are j ++ sym (append-nil (slot_at ts m)) j) ∙ sym (ap (slots_at ts) next ∙ flat_map-append (slot_at ts) (take i ms) (m ∷ []));
      parts_are =
          p ∙ (λ j. h.parts_are j ++ parts_at ts m) ∙ ap (λ us. at ts whole ∷ us) (ap (λ us. all_parts_at ts (take i ms) ++ us) (sym (append-nil (parts_at ts m))) ∙ sym (ap (all_parts_at ts) next ∙ flat_map-append (parts_at ts) (take i ms) (m ∷ [])));
      below = below;
    }

pub made_all : (ts : List Tree) (whole : ℕ) (slots : List Slot) (parts : List ℕ) (ms : List Assignment) (i : ℕ) → Made ts whole slots parts (take i ms) → length ms ≤ i → Made ts whole slots parts ms
made_all ts whole slots parts ms i h le = subst (Made ts whole slots parts) (take_all i ms le) h

pub slots_none : (ss : List code_slot.Slot) (n : ℕ) (us : List Slot) → nat_eq n 0 ≡ true → n ≡ length ss → slots_in ss ≡ us → us ≡ []
slots_none [] n us h e p = sym p
slots_none (s ∷ ss) n us h e p = absurd (let k = eqb-true n 0 h in let no : ⊥ = omega (arith, k, e) in no)

pub slots_some : (ss : List code_slot.Slot) (n : ℕ) (us : List Slot) → nat_eq n 0 ≡ false → n ≡ length ss → slots_in ss ≡ us → us ≡ [] → ⊥
slots_some [] n us h e p q = (let no : true ≡ false = ap (λ (k : ℕ). nat_eq k 0) (sym e) ∙ h in absurd cc)
slots_some (s ∷ ss) n us h e p q = absurd (let no : slot_of s ∷ slots_in ss ≡ [] = p ∙ q in cc)

pub parts_count : (ts : List Tree) (whole : ℕ) (slots : List Slot) (parts : List ℕ) (ms : List Assignment) → Made ts whole slots parts ms → length parts ≡ 1 + settings slots
parts_count ts whole slots parts ms h =
    let n = length-map parts (at ts) in
    let all = ap length h.parts_are in
    let same = ap settings h.slots_are in
    let k = slots_count ts ms in
    omega (arith, n, all, same, k)

-- ---- what is written

trees_behind : (keys : List Key) (e : Tree) (us : List Tree) → trees_from ((key_trees keys ++ (e ∷ [])) ++ us) ≡ subscripts keys (tree e (trees_from us))
trees_behind [] e us = refl
trees_behind (sub t ∷ ks) e us = ap (tree t) (trees_behind ks e us)
trees_behind (fixed a ∷ ks) e us = trees_behind ks e us

slots_same : (ts : List Tree) (ms : List Assignment) → AreKeyed (assignments_at ts ms) → slots_at ts ms ≡ slots_of (assignments_at ts ms)
slots_same ts [] h = refl
slots_same ts (m ∷ ms) h =
    ap (λ ks. slot_for ks (root_place (at ts m.left)) ++ slots_at ts ms) h.0 ∙ ap (λ ss. ss ++ slots_at ts ms) (slot_with_keys (keys_of (at ts m.left)) (root_place (at ts m.left)) h.1)
    ∙ ap (λ ss. record { path = steps_of (keys_of (at ts m.left)); place = root_place (at ts m.left) } ∷ ss) (slots_same ts ms h.2)

trees_same : (ts : List Tree) (ms : List Assignment) → AreKeyed (assignments_at ts ms) → trees_from (all_parts_at ts ms) ≡ slot_trees (assignments_at ts ms)
trees_same ts [] h = refl
trees_same ts (m ∷ ms) h =
    ap (λ ks. trees_from (trees_for ks (at ts m.right) ++ all_parts_at ts ms)) h.0 ∙ ap (λ us. trees_from (us ++ all_parts_at ts ms)) (trees_with_keys (keys_of (at ts m.left)) (at ts m.right) h.1)
    ∙ trees_behind (keys_of (at ts m.left)) (at ts m.right) (all_parts_at ts ms) ∙ ap (λ us. subscripts (keys_of (at ts m.left)) (tree (at ts m.right) us)) (trees_same ts ms h.2)

except_same : (ts : List Tree) (x : Word) (p : Place) (ms : List Assignment) → AreKeyed (assignments_at ts ms)
    → node (strict (except (slots_at ts ms))) p (trees_from (node (name x) p no_trees ∷ all_parts_at ts ms)) ≡ except_of p x (assignments_at ts ms)
except_same ts x p ms h = λ j. node (strict (except (slots_same ts ms h j))) p (tree (node (name x) p no_trees) (trees_same ts ms h j))

not_whole : (keys : List Key) → SomeKeys keys → (ms : _) → sets_whole keys ms ≡ false
not_whole [] h ms = absurd h
not_whole (k ∷ ks) h ms = refl

several : (keys : List Key) (l e : Tree) (ms : _) → sets_whole keys (assignment l e ms) ≡ false
several [] l e ms = refl
several (k ∷ ks) l e ms = refl

keys_there : (keys : List Key) (p : Place) → HavePaths (slot_for keys p ++ []) → SomeKeys keys
keys_there [] p h = h
keys_there (k ∷ ks) p h = tt

-- an EXCEPT, where some part is assigned
pub side_except : (ts : List Tree) (x : Word) (ms : List Assignment) (m : Assignment) → IsPlain (assignments_at ts ms) → HavePaths (slots_at ts ms) → m ≡ get_or ms 0 m → 0 < length ms
    → node (strict (except (slots_at ts ms))) (root_place (at ts m.left)) (trees_from (node (name x) (root_place (at ts m.left)) no_trees ∷ all_parts_at ts ms)) ≡ side_of x (assignments_at ts ms)
side_except ts x [] m h p here less = absurd p
side_except ts x (k ∷ []) m h p here less =
    let keys : SomeKeys (left_keys (at ts k.left)) = keys_there (left_keys (at ts k.left)) (root_place (at ts k.left)) p in
    let known : SomeKeys (keys_of (at ts k.left)) = subst SomeKeys h keys in
    let place : root_place (at ts m.left) ≡ root_place (at ts k.left) = ap (λ (a : Assignment). root_place (at ts a.left)) here in
    ap (λ (q : Place). node (strict (except (slots_at ts (k ∷ [])))) q (trees_from (node (name x) q no_trees ∷ all_parts_at ts (k ∷ [])))) place
    ∙ except_same ts x (root_place (at ts k.left)) (k ∷ []) (h, known, tt)
    ∙ sym (ap (λ b. cond b (at ts k.right) (except_of (root_place (at ts k.left)) x (assignments_at ts (k ∷ [])))) (not_whole (keys_of (at ts k.left)) known no_assignments))
side_except ts x (k ∷ l ∷ ms) m h p here less =
    let place : root_place (at ts m.left) ≡ root_place (at ts k.left) = ap (λ (a : Assignment). root_place (at ts a.left)) here in
    ap (λ (q : Place). node (strict (except (slots_at ts (k ∷ l ∷ ms)))) q (trees_from (node (name x) q no_trees ∷ all_parts_at ts (k ∷ l ∷ ms)))) place
    ∙ except_same ts x (root_place (at ts k.left)) (k ∷ l ∷ ms) h
    ∙ sym (ap (λ b. cond b (at ts k.right) (except_of (root_place (at ts k.left)) x (assignments_at ts (k ∷ l ∷ ms)))) (several (keys_of (at ts k.left)) (at ts l.left) (at ts l.right) (assignments_at ts ms)))

slot_gone : (keys : List Key) (p : Place) (ss : List Slot) → slot_for keys p ++ ss ≡ [] → keys ≡ []
slot_gone [] p ss h = refl
slot_gone (k ∷ ks) p ss h = absurd cc

keyless : (keys : List Key) → keys ≡ [] → SomeKeys keys → ⊥
keyless [] e h = h
keyless (k ∷ ks) e h = absurd cc

-- what is assigned to the whole variable, where no part is
pub side_whole : (ts : List Tree) (x : Word) (ms : List Assignment) (m : Assignment) → IsPlain (assignments_at ts ms) → slots_at ts ms ≡ [] → m ≡ get_or ms 0 m → 0 < length ms → at ts m.right ≡ side_of x (assignments_at ts ms)
side_whole ts x [] m h p here less = absurd (let no : ⊥ = omega (arith, less) in no)
side_whole ts x (k ∷ []) m h p here less =
    let none : keys_of (at ts k.left) ≡ [] = sym h ∙ slot_gone (left_keys (at ts k.left)) (root_place (at ts k.left)) [] p in
    ap (λ (a : Assignment). at ts a.right) here
    ∙ sym (ap (λ ks. cond (sets_whole ks no_assignments) (at ts k.right) (except_of (root_place (at ts k.left)) x (assignments_at ts (k ∷ [])))) none)
side_whole ts x (k ∷ l ∷ ms) m h p here less =
    absurd (keyless (keys_of (at ts k.left)) (sym h.0 ∙ slot_gone (left_keys (at ts k.left)) (root_place (at ts k.left)) (slots_at ts (l ∷ ms)) p) h.1)

pub side_nothing : (ts : List Tree) (x : Word) (ms : List Assignment) → length ms ≡ 0 → node (name x) nowhere no_trees ≡ side_of x (assignments_at ts ms)
side_nothing ts x [] h = refl
side_nothing ts x (m ∷ ms) h = absurd (let no : ⊥ = omega (arith, h) in no)

-- ---- as the pool grows

side_grown : (ts us : List Tree) → Keeps ts us → (x : Word) (ms : List Assignment) → past_all ms ≤ length ts → side_of x (assignments_at us ms) ≡ side_of x (assignments_at ts ms)
side_grown ts us k x ms h = ap (side_of x) (assignments_at-kept ts us k ms h)

plain_grown : (ts us : List Tree) → Keeps ts us → (ms : List Assignment) → past_all ms ≤ length ts → IsPlain (assignments_at ts ms) → IsPlain (assignments_at us ms)
plain_grown ts us k ms h p = subst IsPlain (sym (assignments_at-kept ts us k ms h)) p

module _ (ts us vs : List Tree) (kept : Keeps ts us) (more : Keeps us vs) (x : Word) (ms : List Assignment) (m : Assignment) (there : past_all ms ≤ length ts) (here : m ≡ get_or ms 0 m) (less : 0 < length ms)
    (plain : IsPlain (assignments_at ts ms)) where
  pub side_made : (place : Place) (whole made : ℕ) → root_place (at ts m.left) ≡ place → at us whole ≡ node (name x) place no_trees → HavePaths (slots_at us ms)
      → at vs made ≡ node (strict (except (slots_at us ms))) place (trees_from (at us whole ∷ all_parts_at us ms)) → at vs made ≡ side_of x (assignments_at ts ms)
  side_made place whole made p w paths t =
      let one = past_at past_assignment ms 0 m here less in
      let left : place ≡ root_place (at us m.left) = sym p ∙ ap root_place (sym (kept.same m.left (omega (arith, one, there)))) in
      t ∙ ap (λ u. node (strict (except (slots_at us ms))) place (trees_from (u ∷ all_parts_at us ms))) w
      ∙ ap (λ (q : Place). node (strict (except (slots_at us ms))) q (trees_from (node (name x) q no_trees ∷ all_parts_at us ms))) left
      ∙ side_except us x ms m (plain_grown ts us kept ms there plain) paths here less ∙ side_grown ts us kept x ms there

  pub side_right : slots_at us ms ≡ [] → at vs m.right ≡ side_of x (assignments_at ts ms)
  side_right none =
      let one = past_at past_assignment ms 0 m here less in
      more.same m.right (omega (arith, one, there, kept.longer)) ∙ side_whole us x ms m (plain_grown ts us kept ms there plain) none here less ∙ side_grown ts us kept x ms there
