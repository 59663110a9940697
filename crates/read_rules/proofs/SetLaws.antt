-- Sets as lists that no test tells apart.
use Rattle.std.proofs.Common.{◌≡◌, ℕ, ◌+◌, ◌<◌, ◌≤◌, Bool, true, false, ◌&&◌, ◌||◌, List, [], ◌∷◌, ◌++◌, length, take, get_or, append-nil, refl, sym, ap, ◌∙◌, cond, map}
use Rattle.std.specs.Prelude.{if◌then◌else◌}
use Rattle.std.specs.List.{list_any, flat_map}
use Rattle.std.proofs.lemmas.Bool.{or_left, or_right}
use Rattle.std.proofs.lemmas.List.{take_more, take_all}
use Rattle.std.proofs.lemmas.List.Folds.{list_any-append}
use Rattle.std.proofs.lemmas.Grind.{flat_map-append}
use Rattle.std.proofs.Math.Bool.{or-false}
use Rattle.indexmap.specs.IndexSet.{insert_key}
use Rattle.tla_tree.specs.Tree.{Word}
use Rattle.algorithm_limits.proofs.Tables.{equal, equal_is}
use Rattle.pcal_tree.proofs.SetLaws.{any_map, or_both}
use Rattle.pcal_tree.specs.laws.MacroSpots.{Origin, earlier, assigned}
use Rattle.read_rules.specs.declared.assigned.Assigned.{Assigned}
use Rattle.read_rules.specs.Joins.{Joins}
use Rattle.read_rules.specs.Sets.{origins}

pub joins_none : {X : Type 0} (old : List X) → Joins old old []
joins_none old f = sym (or-false (list_any f old))

pub joins_then : {X : Type 0} (a b c xs ys : List X) → Joins a b xs → Joins b c ys → Joins a c (xs ++ ys)
joins_then a b c xs ys h k f =
    k f ∙ ap (λ (t : Bool). t || list_any f ys) (h f) ∙ or_both (list_any f a) (list_any f xs) (list_any f ys) ∙ ap (λ (t : Bool). list_any f a || t) (sym (list_any-append f xs ys))

has_one : (f : Word → Bool) (x : Word) (xs : List Word) → list_any (equal x) xs ≡ true → f x ≡ true → list_any f xs ≡ true
has_one f x [] e h = cc
has_one f x (y ∷ ys) e h = by (equal x y) refl e (λ g. has_one f x ys g h)
  where
    by : (b : Bool) → equal x y ≡ b → (b || list_any (equal x) ys) ≡ true → (list_any (equal x) ys ≡ true → list_any f ys ≡ true) → (f y || list_any f ys) ≡ true
    by true k g rest = or_left (f y) (list_any f ys) (ap f (sym (equal_is x y k)) ∙ h)
    by false k g rest = or_right (f y) (list_any f ys) (rest g)

or_known : (a c : Bool) → (c ≡ true → a ≡ true) → a ≡ (a || (c || false))
or_known true c h = refl
or_known false true h = h refl
or_known false false h = refl

pub joins_one : (old : List Word) (x : Word) → Joins old (insert_key equal old x) (x ∷ [])
joins_one old x = by (list_any (equal x) old) refl
  where
    by : (b : Bool) → list_any (equal x) old ≡ b → Joins old (if b then old else old ++ x ∷ []) (x ∷ [])
    by true e f = or_known (list_any f old) (f x) (has_one f x old e)
    by false e f = list_any-append f old (x ∷ [])

-- one that is there already
pub joins_had : (old : List Word) (x : Word) → list_any (equal x) old ≡ true → Joins old old (x ∷ [])
joins_had old x e f = or_known (list_any f old) (f x) (has_one f x old e)

-- one more than in a copy
pub joins_after : (old copy new : List Word) (x : Word) → Joins [] copy old → Joins copy new (x ∷ []) → Joins old new (x ∷ [])
joins_after old copy new x h k f = k f ∙ ap (λ (t : Bool). t || list_any f (x ∷ [])) (h f)

-- ---- in loops

pub names_more : (old now new xs : List Word) (i : ℕ) (x : Word) → x ≡ get_or xs i x → i < length xs → Joins old now (take i xs) → Joins now new (x ∷ []) → Joins old new (take (i + 1) xs)
names_more old now new xs i x e l h k f =
    joins_then old now new (take i xs) (x ∷ []) h k f
    ∙ ap (λ (ys : List Word). list_any f old || list_any f ys) (sym (take_more xs i x l ∙ ap (λ (z : Word). take i xs ++ z ∷ []) (sym e)))

pub names_all : (old new xs : List Word) (i : ℕ) → length xs ≤ i → Joins old new (take i xs) → Joins old new xs
names_all old new xs i l h f = h f ∙ ap (λ (ys : List Word). list_any f old || list_any f ys) (take_all i xs l)

pub joins_more : {X : Type 0} (g : X → List Word) (old now new : List Word) (xs : List X) (i : ℕ) (x : X) → x ≡ get_or xs i x → i < length xs → Joins old now (flat_map g (take i xs)) → Joins now new (g x)
    → Joins old new (flat_map g (take (i + 1) xs))
joins_more {X = X} g old now new xs i x e l h k f =
    joins_then old now new (flat_map g (take i xs)) (g x) h k f
    ∙ ap (λ (ys : List Word). list_any f old || list_any f ys)
    (sym (ap (flat_map g) (take_more xs i x l ∙ ap (λ (z : X). take i xs ++ z ∷ []) (sym e)) ∙ flat_map-append g (take i xs) (x ∷ []) ∙ ap (λ (ys : List Word). flat_map g (take i xs) ++ ys) (append-nil (g x))))

pub joins_all : {X : Type 0} (g : X → List Word) (old new : List Word) (xs : List X) (i : ℕ) → length xs ≤ i → Joins old new (flat_map g (take i xs)) → Joins old new (flat_map g xs)
joins_all {X = X} g old new xs i l h f = h f ∙ ap (λ (ys : List X). list_any f old || list_any f (flat_map g ys)) (take_all i xs l)

-- ---- what paths have assigned

pub origins_any : (f : Origin → Bool) (a : Assigned) → list_any f (origins a) ≡ ((a.earlier && f earlier) || list_any (λ x. f (assigned x)) a.names)
origins_any f a = by a.earlier
  where
    by : (b : Bool) → list_any f (cond b (earlier ∷ []) [] ++ map assigned a.names) ≡ ((b && f earlier) || list_any (λ x. f (assigned x)) a.names)
    by true = ap (λ (t : Bool). f earlier || t) (any_map f assigned a.names)
    by false = any_map f assigned a.names

pub origins_join : (a b c : Assigned) → Joins a.names c.names b.names → c.earlier ≡ (a.earlier || b.earlier) → Joins (origins a) (origins c) (origins b)
origins_join a b c h e f =
    origins_any f c ∙ (λ i. ((e i) && f earlier) || h (λ x. f (assigned x)) i)
    ∙ by a.earlier b.earlier (f earlier) (list_any (λ x. f (assigned x)) a.names) (list_any (λ x. f (assigned x)) b.names)
    ∙ sym (λ i. origins_any f a i || origins_any f b i)
  where
    by : (p q r s t : Bool) → (((p || q) && r) || (s || t)) ≡ (((p && r) || s) || ((q && r) || t))
    by true true true s t = refl
    by true false true s t = refl
    by true true false s t = refl
    by true false false s t = refl
    by false true true true t = refl
    by false true true false t = refl
    by false true false s t = refl
    by false false r s t = refl
