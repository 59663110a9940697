-- The names that an expression uses are those that it reads free, and where its bound names are of N, all names and operators that it reads are.
use Rattle.std.proofs.Common.{◌≡◌, ℕ, ◌+◌, List, [], ◌∷◌, ◌++◌, Bool, true, false, ◌||◌, cond, bytes_eq, refl, subst, arith}
use Rattle.tla_token.specs.declared.place.Place.{Place}
use Rattle.tla_token.specs.Signs.{is_among}
use Rattle.tla_token.proofs.Spelled.{same_bytes}
use Rattle.tla_tree.specs.Tree.{Word, Form, name, operator_call, Tree, node, Trees, no_trees, tree, Each, Every, EveryOf, binders, seen_names}
use Rattle.tla_tree.specs.Shapes.{Shaped}
use Rattle.tla_tree.specs.laws.Writable.{IsWritable, AreWritable, count}
use Rattle.tla_value.specs.laws.FreeNames.{Also, FormReads, FreeNames, FreeInParts}
use Rattle.tla_value.proofs.JoinedEval.{EachList, each_seen}
use Rattle.pcal_tree.specs.Algorithm.{Name}
use Rattle.pcal_tree.specs.Reads.{named, if_free, used_by_form, used, used_by_parts, used_by_all}
use Rattle.pcal_tree.proofs.CallsFine.{in_also}
use Rattle.translation.proofs.StepsOnce.{In}
use Rattle.pcal_tree.proofs.GraftsRead.{tree_wider}

-- the word of each name is of N
abbrev pub AllOf : (Word → Type 0) → List Name → Type 0
AllOf N [] = Unit {0}
AllOf N (n ∷ ns) = N n.word × AllOf N ns

pub both_of : (N : Word → Type 0) (xs ys : List Name) → AllOf N (xs ++ ys) → AllOf N xs × AllOf N ys
both_of N [] ys h = (tt, h)
both_of N (x ∷ xs) ys h = (let k = both_of N xs ys h.1 in ((h.0, k.0), k.1))

-- the names that a form binds are of N
abbrev pub BindsOf : (Word → Type 0) → Form → Place → Type 0
BindsOf N m at = Each N (binders m)

-- ---- names that are used

among_each : (N : Word → Type 0) (xs : List Word) → Each N xs → (x : Word) → In xs x → N x
among_each N [] h x m = absurd cc
among_each N (y ∷ ys) h x m = by (bytes_eq y x) refl m (among_each N ys h.1 x)
  where
    by : (b : Bool) → bytes_eq y x ≡ b → (b || is_among ys x) ≡ true → (In ys x → N x) → N x
    by true e k f = subst N (same_bytes y x e) h.0
    by false e k f = f k

among_more : (N : Word → Type 0) (xs ys : List Word) → Each N xs → ((x : Word) → In ys x → N x) → (x : Word) → In (xs ++ ys) x → N x
among_more N [] ys h k x m = k x m
among_more N (y ∷ xs) ys h k x m = by (bytes_eq y x) refl m (among_more N xs ys h.1 k x)
  where
    by : (b : Bool) → bytes_eq y x ≡ b → (b || is_among (xs ++ ys) x) ≡ true → (In (xs ++ ys) x → N x) → N x
    by true e n f = subst N (same_bytes y x e) h.0
    by false e n f = f n

free_one : (N : Word → Type 0) (xs : List Word) → ((x : Word) → In xs x → N x) → (n : Name) → AllOf N (if_free xs n) → N n.word
free_one N xs k n h = by (is_among xs n.word) refl h
  where
    by : (b : Bool) → is_among xs n.word ≡ b → AllOf N (cond b [] (n ∷ [])) → N n.word
    by true e g = k n.word e
    by false e g = g.0

form_free : (N : Word → Type 0) (xs : List Word) → ((x : Word) → In xs x → N x) → (m : Form) (at : Place) (ns : List Name) → AllOf N (used_by_form m at xs ns) → FormReads N N m
form_free N xs k (name x) at ns h = free_one N xs k (named x at) h
form_free N xs k (operator_call f) at ns h = free_one N xs k (named f at) (both_of N (if_free xs (named f at)) ns h).0
form_free N xs k _ at ns h = tt

-- those of its parts
form_parts : (N : Word → Type 0) (xs : List Word) (m : Form) (at : Place) (ns : List Name) → AllOf N (used_by_form m at xs ns) → ((x : Word) → m ≡ name x → AllOf N ns) → AllOf N ns
form_parts N xs (name x) at ns h k = k x refl
form_parts N xs (operator_call f) at ns h k = (both_of N (if_free xs (named f at)) ns h).1
form_parts N xs _ at ns h k = h

-- a name has no parts
name_alone : (x : Word) (ts : Trees) → Shaped (name x) (count ts) → (names : List (List Word)) (xs : List Word) (N : Word → Type 0) → AllOf N (used_by_parts names ts xs)
name_alone x no_trees h names xs N = tt
name_alone x (tree t ts) h names xs N = absurd (no_one (count ts) h)
  where
    no_one : (n : ℕ) → n + 1 ≡ 0 → ⊥
    no_one n e = omega (arith, e)

mutual
  pub names_free : (N : Word → Type 0) (t : Tree) (xs : List Word) → IsWritable t → Every (BindsOf N) t → ((x : Word) → In xs x → N x) → AllOf N (used t xs) → FreeNames N N t
  names_free N (node m at ts) xs w b k h = (
    form_free N xs k m at (used_by_parts (seen_names m) ts xs) h,
    parts_free N (seen_names m) ts xs w.4 b.1 (each_seen N m b.0) k
        (form_parts N xs m at (used_by_parts (seen_names m) ts xs) h (λ x e. name_alone x ts (subst (λ (f : Form). Shaped f (count ts)) e w.0) (seen_names m) xs N)),
  )

  pub parts_free : (N : Word → Type 0) (names : List (List Word)) (ts : Trees) (xs : List Word) → AreWritable ts → EveryOf (BindsOf N) ts → EachList N names → ((x : Word) → In xs x → N x) → AllOf N (used_by_parts names ts xs) → FreeInParts N N names ts
  parts_free N names no_trees xs w b l k h = tt
  parts_free N [] (tree t ts) xs w b l k h =
      let p = both_of N (used t xs) (used_by_parts [] ts xs) h in
      (names_free N t xs w.0 b.0 k p.0, parts_free N [] ts xs w.1 b.1 l k p.1)
  parts_free N (ys ∷ names) (tree t ts) xs w b l k h =
      let p = both_of N (used t (ys ++ xs)) (used_by_parts names ts xs) h in
      (tree_wider N (Also ys N) N (in_also N ys) t (names_free N t (ys ++ xs) w.0 b.0 (among_more N ys xs l.0 k) p.0), parts_free N names ts xs w.1 b.1 l.1 k p.1)

pub all_free : (N : Word → Type 0) (ts : Trees) (xs : List Word) → AreWritable ts → EveryOf (BindsOf N) ts → ((x : Word) → In xs x → N x) → AllOf N (used_by_all ts xs) → FreeInParts N N [] ts
all_free N ts xs w b k h = parts_free N [] ts xs w b tt k h
