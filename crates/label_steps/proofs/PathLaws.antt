-- Sets of names that grow at their end, and what branches of a path have assigned.
use Rattle.std.proofs.Common.{◌≡◌, ℕ, ◌+◌, ◌<◌, ◌≤◌, Bool, true, false, ◌&&◌, ◌||◌, List, [], ◌∷◌, ◌++◌, length, take, drop, get_or, Option, Some, None, refl, sym, ap, ◌∙◌, cond, subst, append-nil, append_assoc, bytes_eq}
use Rattle.std.specs.Prelude.{if◌then◌else◌}
use Rattle.std.specs.List.{list_any}
use Rattle.std.proofs.lemmas.Bool.{or_left, or_right}
use Rattle.std.proofs.lemmas.List.{take_more, take_all, take-append-drop}
use Rattle.std.proofs.lemmas.List.Folds.{list_any-append}
use Rattle.std.proofs.Math.Bool.{or-false}
use Rattle.indexmap.specs.IndexSet.{insert_key}
use Rattle.tla_token.specs.Signs.{is_among}
use Rattle.tla_tree.specs.Tree.{Word}
use Rattle.algorithm_limits.proofs.Tables.{equal, equal_is, same_test}
use Rattle.pcal_tree.specs.Paths as paths
use Rattle.pcal_tree.specs.Paths.{joined, meets, has_assigned}
use Rattle.pcal_tree.proofs.EffectLaws.{Alike}
use Rattle.pcal_tree.proofs.SetLaws.{any_same, meets_any}
use Rattle.label_steps.specs.declared.path.Path.{Path}
use Rattle.label_steps.specs.PathsIn.{path_of, Grows, ends_of}

-- ---- names that come besides

pub grows_none : (xs : List Word) → Grows xs xs []
grows_none xs = record { more = []; kept = sym (append-nil xs); names = λ f. sym (list_any-append f xs [] ∙ or-false (list_any f xs)) }

has_one : (f : Word → Bool) (x : Word) (xs : List Word) → list_any (equal x) xs ≡ true → f x ≡ true → list_any f xs ≡ true
has_one f x [] e h = cc
has_one f x (y ∷ ys) e h = by (equal x y) refl e (λ g. has_one f x ys g h)
  where
    by : (b : Bool) → equal x y ≡ b → (b || list_any (equal x) ys) ≡ true → (list_any (equal x) ys ≡ true → list_any f ys ≡ true) → (f y || list_any f ys) ≡ true
    by true k g rest = or_left (f y) (list_any f ys) (ap f (sym (equal_is x y k)) ∙ h)
    by false k g rest = or_right (f y) (list_any f ys) (rest g)

or_known : (a c : Bool) → (c ≡ true → a ≡ true) → a ≡ (a || (c || false))
or_known true c h = refl
or_known false true h = h refl
or_known false false h = refl

pub grows_one : (old : List Word) (x : Word) → Grows old (insert_key equal old x) (x ∷ [])
grows_one old x = by (list_any (equal x) old) refl
  where
    by : (b : Bool) → list_any (equal x) old ≡ b → Grows old (if b then old else old ++ x ∷ []) (x ∷ [])
    by true e = record { more = []; kept = sym (append-nil old); names = λ f. or_known (list_any f old) (f x) (has_one f x old e) ∙ sym (list_any-append f old (x ∷ [])) }
    by false e = record { more = x ∷ []; kept = refl; names = λ f. refl }

pub grows_then : (a b c xs ys : List Word) → Grows a b xs → Grows b c ys → Grows a c (xs ++ ys)
grows_then a b c xs ys h k = record {
  more = h.more ++ k.more;
  kept = k.kept ∙ ap (λ (zs : List Word). zs ++ k.more) h.kept ∙ append_assoc a h.more k.more;
  names = λ f.
      k.names f ∙ list_any-append f b ys ∙ ap (λ (t : Bool). t || list_any f ys) (h.names f) ∙ sym (list_any-append f (a ++ xs) ys)
      ∙ ap (list_any f) (append_assoc a xs ys);
}

pub grows_more : (old now new xs : List Word) (i : ℕ) (x : Word) → x ≡ get_or xs i x → i < length xs → Grows old now (take i xs) → Grows now new (x ∷ []) → Grows old new (take (i + 1) xs)
grows_more old now new xs i x e l h k =
    subst (λ (ys : List Word). Grows old new ys) (sym (take_more xs i x l ∙ ap (λ (z : Word). take i xs ++ z ∷ []) (sym e))) (grows_then old now new (take i xs) (x ∷ []) h k)

pub grows_all : (old new xs : List Word) (i : ℕ) → length xs ≤ i → Grows old new (take i xs) → Grows old new xs
grows_all old new xs i l h = subst (λ (ys : List Word). Grows old new ys) (take_all i xs l) h

-- ---- names that are looked up

is_met : (xs : List Word) (x : Word) → list_any (equal x) xs ≡ is_among xs x
is_met xs x = any_same (equal x) (λ v. bytes_eq v x) (λ v. same_test x v) xs

pub met_more : (xs ys : List Word) (i : ℕ) (y : Word) (b : Bool) → y ≡ get_or ys i y → i < length ys → b ≡ meets xs (take i ys) → (b || list_any (equal y) xs) ≡ meets xs (take (i + 1) ys)
met_more xs ys i y b e l h =
    (λ k. (h ∙ meets_any xs (take i ys)) k || (is_met xs y ∙ sym (or-false (is_among xs y))) k)
    ∙ sym (list_any-append (is_among xs) (take i ys) (y ∷ []))
    ∙ ap (list_any (is_among xs)) (sym (take_more ys i y l ∙ ap (λ (z : Word). take i ys ++ z ∷ []) (sym e)))
    ∙ sym (meets_any xs (take (i + 1) ys))

pub met_all : (p : Path) (ys : List Word) (i : ℕ) (b : Bool) → length ys ≤ i → b ≡ meets p.names.keys (take i ys) → (b && p.reached) ≡ has_assigned (path_of p) ys
met_all p ys i b l h = ap (λ (t : Bool). t && p.reached) (h ∙ ap (meets p.names.keys) (take_all i ys l)) ∙ by p.reached
  where
    and_true : (t : Bool) → (t && true) ≡ t
    and_true true = refl
    and_true false = refl

    and_false : (t : Bool) → (t && false) ≡ false
    and_false true = refl
    and_false false = refl

    by : (r : Bool) → (meets p.names.keys ys && r) ≡ has_assigned (cond r (Some p.names.keys) None) ys
    by true = and_true (meets p.names.keys ys)
    by false = and_false (meets p.names.keys ys)

-- ---- branches

pub ends_first : (p g : Path) (i : ℕ) → p.reached ≡ true → g.names.keys ≡ drop i p.names.keys → Alike (ends_of (take i p.names.keys) (Some g)) (joined (ends_of (take i p.names.keys) None) (path_of p))
ends_first p g i r e = subst (λ (b : Bool). Alike (ends_of (take i p.names.keys) (Some g)) (cond b (Some p.names.keys) None)) (sym r) (λ f. ap (λ (xs : List Word). list_any f (take i p.names.keys ++ xs)) e ∙ ap (list_any f) (take-append-drop i p.names.keys))

pub ends_more : (p old new : Path) (i : ℕ) → p.reached ≡ true → Grows old.names.keys new.names.keys (drop i p.names.keys) → Alike (ends_of (take i p.names.keys) (Some new)) (joined (ends_of (take i p.names.keys) (Some old)) (path_of p))
ends_more p old new i r g =
    subst (λ (b : Bool). Alike (ends_of front (Some new)) (joined (ends_of front (Some old)) (cond b (Some p.names.keys) None))) (sym r) (λ f.
    list_any-append f front new.names.keys ∙ ap (λ (b : Bool). list_any f front || b) (g.names f ∙ list_any-append f old.names.keys back)
    ∙ both (list_any f front) (list_any f old.names.keys) (list_any f back)
    ∙ (λ k. sym (list_any-append f front old.names.keys) k || (sym (list_any-append f front back) ∙ ap (list_any f) (take-append-drop i p.names.keys)) k)
    ∙ sym (list_any-append f (front ++ old.names.keys) p.names.keys))
  where
    front : List Word
    front = take i p.names.keys

    back : List Word
    back = drop i p.names.keys

    both : (a b c : Bool) → (a || (b || c)) ≡ ((a || b) || (a || c))
    both true b c = refl
    both false b c = refl

alike_itself : (p : paths.Path) → Alike p p
alike_itself None = tt
alike_itself (Some xs) = λ f. refl

pub ends_stay : (p : Path) (o : Option Path) (i : ℕ) → p.reached ≡ false → Alike (ends_of (take i p.names.keys) o) (joined (ends_of (take i p.names.keys) o) (path_of p))
ends_stay p o i r = subst (λ (b : Bool). Alike (ends_of (take i p.names.keys) o) (joined (ends_of (take i p.names.keys) o) (cond b (Some p.names.keys) None))) (sym r) (by (ends_of (take i p.names.keys) o))
  where
    by : (q : paths.Path) → Alike q (joined q None)
    by None = tt
    by (Some xs) = λ f. refl

-- behind branches
pub closed_none : (p : Path) → p.reached ≡ false → (xs : List Word) → Alike (path_of p) (ends_of xs None)
closed_none p r xs = subst (λ (b : Bool). Alike (cond b (Some p.names.keys) None) None) (sym r) tt

pub closed_some : (old new all : Path) → new.reached ≡ true → Grows old.names.keys new.names.keys all.names.keys → Alike (path_of new) (ends_of old.names.keys (Some all))
closed_some old new all r g = subst (λ (b : Bool). Alike (cond b (Some new.names.keys) None) (Some (old.names.keys ++ all.names.keys))) (sym r) g.names
