-- The settings of one statement, variable by variable, as the pool grows.
use Rattle.std.proofs.Common.{◌≡◌, ℕ, zero, suc, ◌+◌, ◌<◌, ◌≤◌, List, [], ◌∷◌, ◌++◌, length, map, take, Bool, true, false, ◌||◌, cond, Some, bytes_eq, refl, sym, ap, ◌∙◌, subst, arith}
use Rattle.std.specs.Prelude.{slice_get, slice_index_or}
use Rattle.std.proofs.lemmas.List.{map_push, take_all}
use Rattle.std.proofs.lemmas.List.Folds.{list_any-append}
use Rattle.tla_token.specs.Signs.{is_among}
use Rattle.tla_token.specs.declared.place.Place.{Place}
use Rattle.tla_tree.specs.Tree.{Word, name as name_form, Tree, node, Trees}
use Rattle.tla_tree.specs.Pool.{at, Keeps}
use Rattle.tla_tree.proofs.PoolNumbers.{Keeps-then}
use Rattle.module_tree.specs.Module.{setting, Items, no_items, item}
use Rattle.module_write.specs.declared.«module».Item.{Item}
use Rattle.module_write.specs.declared.«module».Item.TheVariants.{Setting}
use Rattle.module_write.specs.InMemory.{items_at, past_item, past_items}
use Rattle.module_write.proofs.ItemEquations.{setting_at, past_setting}
use Rattle.module_write.proofs.InMemoryGrown.{items_at-kept}
use Rattle.name_bits.specs.declared.bits.Bits.{Bits}
use Rattle.name_bits.specs.NamesIn.{most, names_in}
use Rattle.pcal_tree.specs.declared.algorithm.Assignment.{Assignment}
use Rattle.pcal_tree.specs.Algorithm.{Assignments, no_assignments, assignment, assign}
use Rattle.pcal_tree.specs.InMemory.{assignments_at}
use Rattle.pcal_tree.proofs.InMemoryEach.{past_one_more}
use Rattle.pcal_tree.proofs.InMemoryGrown.{assignments_at-kept}
use Rattle.action_builder.specs.Assigned.{Names, head_of, heads}
use Rattle.action_builder.specs.Written.{keys_of, own, side_of, primed, onto, settings_of}
use Rattle.action_builder.specs.laws.Ready.{LeftSides}
use Rattle.action_builder.specs.laws.InParts.{SomeKeys, Beside, InParts}
use Rattle.action_builder.proofs.Names.{one_in}
use Rattle.right_sides.specs.declared.after.After.{After}
use Rattle.right_sides.specs.After.{after_tree, after_items, AfterIn}
use Rattle.right_sides.specs.Keys.{left_keys}
use Rattle.right_sides.specs.Groups.{Group, groups_at, grouped, past_all, past_groups}
use Rattle.right_sides.specs.Parts.{AreKeyed, IsPlain}
use Rattle.right_sides.specs.Settings.{settings_in, ArePlain, names_of, AreKnown, IsWhole}
use Rattle.right_sides.proofs.AfterLaws.{onto_nothing, onto_onto, items_last, after_onto, after_nothing, after_setting, after_tree-kept}
use Rattle.right_sides.proofs.KeyLaws.{keys_left}
use Rattle.right_sides.proofs.GroupLaws.{same_names, same_itself}

-- ---- one setting

pub setting_added : (ts us vs : List Tree) → Keeps ts us → Keeps us vs → (a : After) → AfterIn (length ts) a → (A : Names) (x y : Word) (right made : ℕ) (t : Tree) (before out : List Item) → past_items before ≤ length ts
    → y ≡ x → at us right ≡ t → at vs made ≡ after_tree us a (primed A (at us right)) → out ≡ before ++ Setting y made ∷ []
    → items_at vs out ≡ onto (items_at ts before) (item (setting x (after_tree ts a (primed A t))) no_items)
setting_added ts us vs k l a h A x y right made t before out past n r m e =
    let tree : at vs made ≡ after_tree ts a (primed A t) = m ∙ after_tree-kept ts us k a h (primed A (at us right)) ∙ ap (λ u. after_tree ts a (primed A u)) r in
    ap (items_at vs) e ∙ items_last vs before (Setting y made) ∙ ap (λ i. onto (items_at vs before) (item i no_items)) (setting_at vs y made)
    ∙ (λ j. onto (items_at-kept ts vs (Keeps-then ts us vs k l) before past j) (item (setting (n j) (tree j)) no_items))

pub past_added : (m : ℕ) (y : Word) (made : ℕ) (before out : List Item) → past_items before ≤ m → made < m → out ≡ before ++ Setting y made ∷ [] → past_items out ≤ m
past_added m y made before out h l e =
    let all = ap past_items e in
    let more = past_one_more past_item before (Setting y made) in
    let one = past_setting y made in
    omega (arith, all, more, one, h, l)

-- ---- the loop over groups

-- the group of a number
pub at_number : (gs : List Group) (i : ℕ) → i < length gs → (g : Group) × (slice_get gs i ≡ Some g) × (take (i + 1) gs ≡ take i gs ++ g ∷ []) × (past_all g.1.items ≤ past_groups gs)
at_number [] i h = absurd (let no : ⊥ = omega (arith, h) in no)
at_number (g ∷ gs) zero h = (g, refl, refl, omega arith)
at_number (g ∷ gs) (suc i) h =
    let r = at_number gs i (omega (arith, h)) in
    let next : suc i + 1 ≡ suc (i + 1) = omega arith in
    (r.0, r.1, ap (λ n. take n (g ∷ gs)) next ∙ ap (λ l. g ∷ l) r.2, omega (arith, r.3))

settings_last : (A : Names) (ps : List (Word × Assignments)) (p : Word × Assignments) → settings_in A (ps ++ p ∷ []) ≡ onto (settings_in A ps) (item (setting p.0 (primed A (side_of p.0 p.1))) no_items)
settings_last A [] p = refl
settings_last A (q ∷ ps) p = ap (item (setting q.0 (primed A (side_of q.0 q.1)))) (settings_last A ps p)

plain_parts : (ps : List (Word × Assignments)) (p : Word × Assignments) → ArePlain (ps ++ p ∷ []) → ArePlain ps × IsPlain p.1
plain_parts [] p h = (tt, h.0)
plain_parts (q ∷ ps) p h = (let r = plain_parts ps p h.1 in ((h.0, r.0), r.1))

-- the settings of these groups go behind the items that were there
pub record SetTo (old ts : List Tree) (before out : List Item) (A : Names) (a : After) (gs : List Group) : Type 0 where
  pub kept : Keeps old ts
  pub items : ArePlain (groups_at old gs) → items_at ts out ≡ onto (items_at old before) (after_items old a (settings_in A (groups_at old gs)))
  pub within : past_items out ≤ length ts

pub Keeps-self : (ts : List Tree) → Keeps ts ts
Keeps-self ts = record { longer = omega arith; same = λ i h. refl }

pub set_none : (ts : List Tree) (before : List Item) (A : Names) (a : After) (gs : List Group) → past_items before ≤ length ts → SetTo ts ts before before A a (take 0 gs)
set_none ts before A a gs h = record {
  kept = Keeps-self ts;
  items = λ p. sym (onto_nothing (items_at ts before)) ∙ ap (onto (items_at ts before)) (sym (after_nothing ts a));
  within = h;
}

pub set_more : (old ts us : List Tree) (before out others : List Item) (A : Names) (a : After) (gs : List Group) (i : ℕ) (x : Word) (ms : List Assignment) → SetTo old ts before out A a (take i gs) → i < length gs → past_groups gs ≤ length old → AfterIn (length old) a
    → ((g : Group) → slice_get gs i ≡ Some g → x ≡ g.0) → ((g : Group) → slice_get gs i ≡ Some g → ms ≡ g.1.items) → Keeps ts us
    → (IsPlain (assignments_at ts ms) → items_at us others ≡ onto (items_at ts out) (item (setting x (after_tree ts a (primed A (side_of x (assignments_at ts ms))))) no_items)) → past_items others ≤ length us
    → SetTo old us before others A a (take (i + 1) gs)
set_more old ts us before out others A a gs i x ms h less past put name list keeps said within =
    let w = at_number gs i less in
    let g : Group = w.0 in
    let next : groups_at old (take (i + 1) gs) ≡ groups_at old (take i gs) ++ (g.0, assignments_at old g.1.items) ∷ [] = ap (groups_at old) w.2 ∙ map_push (λ (k : Group). (k.0, assignments_at old k.1.items)) (take i gs) g in
    let same : assignments_at ts ms ≡ assignments_at old g.1.items = ap (assignments_at ts) (list g w.1) ∙ assignments_at-kept old ts h.kept g.1.items (omega (arith, w.3, past)) in
    record {
      kept = Keeps-then old ts us h.kept keeps;
      items = λ plain.
          let parts = plain_parts (groups_at old (take i gs)) (g.0, assignments_at old g.1.items) (subst ArePlain next plain) in
          let all = settings_in A (groups_at old (take i gs)) in
          let last : Tree = primed A (side_of g.0 (assignments_at old g.1.items)) in
          said (subst IsPlain (sym same) parts.1)
          ∙ (λ j. onto (h.items parts.0 j) (item (setting (name g w.1 j) (after_tree ts a (primed A (side_of (name g w.1 j) (same j))))) no_items))
          ∙ ap (λ t. onto (onto (items_at old before) (after_items old a all)) (item (setting g.0 t) no_items)) (after_tree-kept old ts h.kept a put last)
          ∙ ap (onto (onto (items_at old before) (after_items old a all))) (sym (after_setting old a g.0 last))
          ∙ onto_onto (items_at old before) (after_items old a all) (after_items old a (item (setting g.0 last) no_items))
          ∙ ap (onto (items_at old before)) (sym (after_onto old a all (item (setting g.0 last) no_items)))
          ∙ ap (λ (is : Items). onto (items_at old before) (after_items old a is)) (sym (ap (settings_in A) next ∙ settings_last A (groups_at old (take i gs)) (g.0, assignments_at old g.1.items)));
      within = within;
    }

pub set_all : (old ts : List Tree) (before out : List Item) (A : Names) (a : After) (gs : List Group) (i : ℕ) → SetTo old ts before out A a (take i gs) → length gs ≤ i → SetTo old ts before out A a gs
set_all old ts before out A a gs i h le = subst (SetTo old ts before out A a) (take_all i gs le) h

-- ---- the variables of groups

or_nothing : (b : Bool) → (b || false) ≡ b
or_nothing true = refl
or_nothing false = refl

or_either : (a b : Bool) → b ≡ true → (a || b) ≡ true
or_either true b h = refl
or_either false b h = h

or_first : (a b : Bool) → a ≡ true → (a || b) ≡ true
or_first true b h = refl
or_first false b h = absurd cc

-- those of these groups are in the set
abbrev pub AreIn : List Word → Bits → List Group → Type 0
AreIn order names gs = length order ≤ most → AreKnown order (names_of gs) → (x : Word) → is_among (names_in order names) x ≡ is_among (names_of gs) x

pub none_in : (order : List Word) (names : Bits) (gs : List Group) → names_in order names ≡ [] → AreIn order names (take 0 gs)
none_in order names gs h le known x = ap (λ (xs : List Word). is_among xs x) h

pub more_in : (order : List Word) (names others : Bits) (gs : List Group) (i : ℕ) (y : Word) → AreIn order names (take i gs) → i < length gs → ((g : Group) → slice_get gs i ≡ Some g → y ≡ g.0)
    → (length order ≤ most → is_among order y ≡ true → (x : Word) → is_among (names_in order others) x ≡ (is_among (names_in order names) x || bytes_eq y x)) → AreIn order others (take (i + 1) gs)
more_in order names others gs i y h less name said le known x =
    let w = at_number gs i less in
    let g : Group = w.0 in
    let next : names_of (take (i + 1) gs) ≡ names_of (take i gs) ++ g.0 ∷ [] = ap names_of w.2 ∙ map_push (λ (k : Group). k.0) (take i gs) g in
    let among : (z : Word) → is_among (names_of (take (i + 1) gs)) z ≡ (is_among (names_of (take i gs)) z || (bytes_eq g.0 z || false)) = λ z. ap (λ (xs : List Word). is_among xs z) next ∙ list_any-append (λ v. bytes_eq v z) (names_of (take i gs)) (g.0 ∷ []) in
    let here : is_among order y ≡ true =
    ap (is_among order) (name g w.1) ∙ known g.0 (among g.0 ∙ or_either (is_among (names_of (take i gs)) g.0) (bytes_eq g.0 g.0 || false) (or_first (bytes_eq g.0 g.0) false (same_itself g.0))) in
    let before : AreKnown order (names_of (take i gs)) = λ z m. known z (among z ∙ or_first (is_among (names_of (take i gs)) z) (bytes_eq g.0 z || false) m) in
    said le here x ∙ (λ j. h le before x j || bytes_eq (name g w.1 j) x) ∙ sym (among x ∙ ap (λ b. is_among (names_of (take i gs)) x || b) (or_nothing (bytes_eq g.0 x)))

pub all_in_set : (order : List Word) (names : Bits) (gs : List Group) (i : ℕ) → AreIn order names (take i gs) → length gs ≤ i → AreIn order names gs
all_in_set order names gs i h le = subst (AreIn order names) (take_all i gs le) h

-- ---- one statement

settings_grouped : (A : Names) (ms : Assignments) (ys : List Word) → settings_in A (map (λ y. (y, own y ms)) ys) ≡ settings_of A ms ys no_items
settings_grouped A ms [] = refl
settings_grouped A ms (y ∷ ys) = ap (item (setting y (primed A (side_of y (own y ms))))) (settings_grouped A ms ys)

names_grouped : (f : Word → Assignments) (ys : List Word) → map (λ (p : Word × Assignments). p.0) (map (λ y. (y, f y)) ys) ≡ ys
names_grouped f [] = refl
names_grouped f (y ∷ ys) = ap (λ l. y ∷ l) (names_grouped f ys)

names_at : (ts : List Tree) (gs : List Group) → names_of gs ≡ map (λ (p : Word × Assignments). p.0) (groups_at ts gs)
names_at ts [] = refl
names_at ts (g ∷ gs) = ap (λ l. g.0 ∷ l) (names_at ts gs)

own_keyed : (V : Names) (l : Tree) (y : Word) (ms : Assignments) → bytes_eq (head_of l) y ≡ true → Beside l ms → LeftSides V ms → AreKeyed (own y ms)
own_keyed V l y no_assignments q b h = tt
own_keyed V l y (assignment m e ms) q b h = by (bytes_eq (head_of m) y) refl (own_keyed V l y ms q b.1 h.1)
  where
    by : (k : Bool) → bytes_eq (head_of m) y ≡ k → AreKeyed (own y ms) → AreKeyed (cond k (assignment m e (own y ms)) (own y ms))
    by true d r = (keys_left V m h.0, (b.0 (ap (bytes_eq (head_of l)) (same_names (head_of m) y d) ∙ q)).1, r)
    by false d r = r

abbrev IsSome : Assignments → Type 0
IsSome no_assignments = ⊥
IsSome (assignment l e ms) = Unit {0}

own_first : (l : Tree) (y : Word) (ms : Assignments) → bytes_eq (head_of l) y ≡ true → Beside l ms → IsSome (own y ms) → SomeKeys (keys_of l)
own_first l y no_assignments q b h = absurd h
own_first l y (assignment m e ms) q b h = by (bytes_eq (head_of m) y) refl (own_first l y ms q b.1) h
  where
    by : (k : Bool) → bytes_eq (head_of m) y ≡ k → (IsSome (own y ms) → SomeKeys (keys_of l)) → IsSome (cond k (assignment m e (own y ms)) (own y ms)) → SomeKeys (keys_of l)
    by true d g h = (b.0 (ap (bytes_eq (head_of l)) (same_names (head_of m) y d) ∙ q)).0
    by false d g h = g h

first_plain : (l e : Tree) (ms : Assignments) → left_keys l ≡ keys_of l → (IsSome ms → SomeKeys (keys_of l)) → AreKeyed ms → IsPlain (assignment l e ms)
first_plain l e no_assignments k f h = k
first_plain l e (assignment m d ms) k f h = (k, f tt, h)

own_plain : (V : Names) (ms : Assignments) → LeftSides V ms → InParts ms → (y : Word) → IsPlain (own y ms)
own_plain V no_assignments h p y = tt
own_plain V (assignment l e ms) h p y = by (bytes_eq (head_of l) y) refl (own_plain V ms h.1 p.1 y)
  where
    by : (k : Bool) → bytes_eq (head_of l) y ≡ k → IsPlain (own y ms) → IsPlain (cond k (assignment l e (own y ms)) (own y ms))
    by true q r = first_plain l e (own y ms) (keys_left V l h.0) (own_first l y ms q p.0) (own_keyed V l y ms q p.0 h.1)
    by false q r = r

all_plain : (ms : Assignments) → ((y : Word) → IsPlain (own y ms)) → (ys : List Word) → ArePlain (map (λ y. (y, own y ms)) ys)
all_plain ms h [] = tt
all_plain ms h (y ∷ ys) = (h y, all_plain ms h ys)

module _ (ts : List Tree) (gs : List Group) (ms : Assignments) (is : groups_at ts gs ≡ grouped ms) where
  names_are : names_of gs ≡ heads ms
  names_are = names_at ts gs ∙ ap (map (λ (p : Word × Assignments). p.0)) is ∙ names_grouped (λ y. own y ms) (heads ms)

  pub statement_settings : (V A : Names) → LeftSides V ms → InParts ms → ArePlain (groups_at ts gs) × (settings_in A (groups_at ts gs) ≡ settings_of A ms (heads ms) no_items)
  statement_settings V A l p = (subst ArePlain (sym is) (all_plain ms (own_plain V ms l p) (heads ms)), ap (settings_in A) is ∙ settings_grouped A ms (heads ms))

  pub statement_names : (order : List Word) (names : Bits) → AreIn order names gs → LeftSides (is_among order) ms → length order ≤ most → (x : Word) → is_among (names_in order names) x ≡ is_among (heads ms) x
  statement_names order names h l le x =
      h le (subst (AreKnown order) (sym names_are) (one_in (is_among order) (assign ms) l)) x ∙ ap (λ (xs : List Word). is_among xs x) names_are

-- ---- one assignment to a whole variable

whole_heads : (x : Word) (e : Tree) (ms : Assignments) → IsWhole x e ms → heads ms ≡ x ∷ []
whole_heads x e ms (p, ts, is) = ap heads is

whole_settings : (A : Names) (x : Word) (e : Tree) (p : Place) (ts : Trees) → settings_of A (assignment (node (name_form x) p ts) e no_assignments) (x ∷ []) no_items ≡ item (setting x (primed A e)) no_items
whole_settings A x e p ts = ap (λ (b : Bool). item (setting x (primed A (side_of x (cond b (assignment (node (name_form x) p ts) e no_assignments) no_assignments)))) no_items) (same_itself x)

pub set_whole : (A : Names) (x : Word) (e : Tree) (ms : Assignments) → IsWhole x e ms → item (setting x (primed A e)) no_items ≡ settings_of A ms (heads ms) no_items
set_whole A x e ms (p, ts, is) = sym (ap (λ (ns : Assignments). settings_of A ns (heads ns) no_items) is ∙ whole_settings A x e p ts)

pub whole_known : (V : Names) (x : Word) (e : Tree) (ms : Assignments) → IsWhole x e ms → LeftSides V ms → V x ≡ true
whole_known V x e ms (p, ts, is) h = (subst (LeftSides V) is h).0

pub whole_names : (x : Word) (e : Tree) (ms : Assignments) → IsWhole x e ms → (y : Word) → bytes_eq x y ≡ is_among (heads ms) y
whole_names x e ms w y = sym (ap (λ (xs : List Word). is_among xs y) (whole_heads x e ms w) ∙ or_nothing (bytes_eq x y))

pub is_whole : (ts : List Tree) (ms : List Assignment) (x : Word) (p : Place) (parts : Trees) (d : Assignment) → length ms ≡ 1 → at ts (slice_index_or ms 0 d).left ≡ node (name_form x) p parts
    → IsWhole x (at ts (slice_index_or ms 0 d).right) (assignments_at ts ms)
is_whole ts [] x p parts d n h = absurd (let no : ⊥ = omega (arith, n) in no)
is_whole ts (k ∷ []) x p parts d n h = (p, parts, (λ j. assignment (h j) (at ts k.right) no_assignments))
is_whole ts (k ∷ l ∷ ms) x p parts d n h = absurd (let no : ⊥ = omega (arith, n) in no)
