-- The names that an expression reads free are those that it uses, which the rule on the order of initial values looks at.
use Rattle.std.proofs.Common.{◌≡◌, List, [], ◌∷◌, ◌++◌, Bool, true, false, cond, ◌⊎◌, inl, inr, refl, arith}
use Rattle.std.specs.List.{flat_map, list_any, AllByRecursion}
use Rattle.std.proofs.lemmas.Bool.{or_parts}
use Rattle.tla_token.specs.declared.place.Place.{Place}
use Rattle.tla_token.specs.Signs.{is_among}
use Rattle.tla_tree.specs.Tree.{Word, Name, Form, name, operator_call, Tree, node, Trees, no_trees, tree, seen_names}
use Rattle.tla_tree.specs.Shapes.{Shaped}
use Rattle.tla_tree.specs.laws.Writable.{count, IsWritable, AreWritable}
use Rattle.tla_value.specs.laws.FreeNames.{Also, FormReads, FreeNames, FreeInParts, Any}
use Rattle.pcal_tree.specs.Reads.{named, if_free, used_by_form, used, used_by_parts, Reading, looked_at}
use Rattle.pcal_tree.proofs.CallsFine.{in_also, free_weaker, among_also}
use Rattle.action_builder.proofs.Main.{append_cases}

-- ---- lists

pub all_parts : {X : Type 0} (Q : X → Type 0) (xs ys : List X) → AllByRecursion Q (xs ++ ys) → AllByRecursion Q xs × AllByRecursion Q ys
all_parts Q [] ys h = (tt, h)
all_parts Q (x ∷ xs) ys h = (let k = all_parts Q xs ys h.1 in ((h.0, k.0), k.1))

any_later : {X : Type 0} (f : X → Bool) (xs ys : List X) → list_any f (xs ++ ys) ≡ false → list_any f ys ≡ false
any_later f [] ys e = e
any_later f (x ∷ xs) ys e = any_later f xs ys (or_parts (f x) (list_any f (xs ++ ys)) e).1

-- each name is among what is looked at for it
pub none_looked_at : (f : Word → Bool) (R : List Reading) (ns : List Name) → list_any f (flat_map (looked_at R) ns) ≡ false → AllByRecursion (λ n. f n.word ≡ false) ns
none_looked_at f R [] e = tt
none_looked_at f R (n ∷ ns) e = ((or_parts (f n.word) _ e).0, none_looked_at f R ns (any_later f (looked_at R n) (flat_map (looked_at R) ns) e))

-- ---- names of N, and those that are bound around

abbrev Around : List Word → (Word → Type 0) → Word → Type 0
Around xs N y = (is_among xs y ≡ true) ⊎ N y

around_also : (N : Word → Type 0) (xs ys : List Word) (y : Word) → Around (ys ++ xs) N y → Also ys (Around xs N) y
around_also N xs ys y (inr n) = in_also (Around xs N) ys y (inr n)
around_also N xs ys y (inl e) = by (append_cases ys xs y e)
  where
    by : (is_among ys y ≡ true) ⊎ (is_among xs y ≡ true) → Also ys (Around xs N) y
    by (inl q) = among_also (Around xs N) ys y q
    by (inr q) = in_also (Around xs N) ys y (inl q)

-- ---- expressions

module _ (N : Word → Type 0) where
  abbrev Have : List Name → Type 0
  Have ns = AllByRecursion (λ n. N n.word) ns

  name_around : (xs : List Word) (x : Word) (at : Place) → Have (if_free xs (named x at)) → Around xs N x
  name_around xs x at h = by (is_among xs x) refl h
    where
      by : (b : Bool) → is_among xs x ≡ b → Have (cond b [] (named x at ∷ [])) → Around xs N x
      by true q k = inl q
      by false q k = inr k.0

  form_around : (xs : List Word) (m : Form) (at : Place) (ns : List Name) → Have (used_by_form m at xs ns) → FormReads (Around xs N) Any m
  form_around xs (name x) at ns h = name_around xs x at h
  form_around xs (operator_call f) at ns h = tt
  form_around xs m at ns h = tt

  -- a name has no parts that could be read
  no_parts : (xs : List Word) (ts : Trees) → count ts ≡ 0 → FreeInParts (Around xs N) Any [] ts
  no_parts xs no_trees e = tt
  no_parts xs (tree t ts) e = absurd (omega (arith, e))

  parts_free : (m : Form) (at : Place) (ts : Trees) → Shaped m (count ts) → (xs : List Word) → ((names : List (List Word)) → Have (used_by_parts names ts xs) → FreeInParts (Around xs N) Any names ts)
      → Have (used_by_form m at xs (used_by_parts (seen_names m) ts xs)) → FreeInParts (Around xs N) Any (seen_names m) ts
  parts_free (name x) at ts q xs f h = no_parts xs ts q
  parts_free (operator_call g) at ts q xs f h = f [] (all_parts (λ n. N n.word) (if_free xs (named g at)) (used_by_parts [] ts xs) h).1
  parts_free m at ts q xs f h = f (seen_names m) h

  mutual
    pub used_free : (t : Tree) → IsWritable t → (xs : List Word) → Have (used t xs) → FreeNames (Around xs N) Any t
    used_free (node m at ts) w xs h = (form_around xs m at (used_by_parts (seen_names m) ts xs) h, parts_free m at ts w.0 xs (λ names k. free_in_parts names ts w.4 xs k) h)

    free_in_parts : (names : List (List Word)) (ts : Trees) → AreWritable ts → (xs : List Word) → Have (used_by_parts names ts xs) → FreeInParts (Around xs N) Any names ts
    free_in_parts names no_trees w xs h = tt
    free_in_parts [] (tree t ts) w xs h = (let k = all_parts (λ n. N n.word) (used t xs) (used_by_parts [] ts xs) h in (used_free t w.0 xs k.0, free_in_parts [] ts w.1 xs k.1))
    free_in_parts (ys ∷ names) (tree t ts) w xs h =
        let k = all_parts (λ n. N n.word) (used t (ys ++ xs)) (used_by_parts names ts xs) h in
        (free_weaker (Around (ys ++ xs) N) (Also ys (Around xs N)) (around_also N xs ys) t (used_free t w.0 (ys ++ xs) k.0), free_in_parts names ts w.1 xs k.1)

  -- outside binders
  pub reads_used : (t : Tree) → IsWritable t → Have (used t []) → FreeNames N Any t
  reads_used t w h = free_weaker (Around [] N) N none_around t (used_free t w [] h)
    where
      none_around : (y : Word) → Around [] N y → N y
      none_around y (inl e) = cc
      none_around y (inr n) = n
