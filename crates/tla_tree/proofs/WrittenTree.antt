-- The phrase of a tree has that tree, places aside.
use Rattle.std.proofs.Common.{◌≡◌, ℕ, suc, ◌+◌, Bool, true, false, List, [], ◌∷◌, length, map, refl, ap, subst, ◌∙◌, arith}
use Rattle.tla_token.specs.declared.place.Place.{Place}
use Rattle.tla_tree.specs.declared.op.Op.{Op}
use Rattle.tla_tree.specs.declared.op.Op.TheVariants as op
use Rattle.tla_tree.specs.declared.op.Binder.{Binder}
use Rattle.tla_tree.specs.declared.op.Binder.TheVariants as binder
use Rattle.tla_tree.specs.Rank.{is_prefix}
use Rattle.tla_tree.specs.Tree.{Word, Name, PathStep, Slot, Strict, Form, Tree, Trees, node, no_trees, tree}
use Rattle.tla_tree.specs.Tree as tree
use Rattle.tla_tree.specs.Shapes.{Shaped, StrictShaped, BinderShaped, CaseShaped, HaveNames, is_strict, operands, subscripts, settings}
use Rattle.tla_tree.specs.Spelling.{Phrase, Binds, Settings, Path, Arms, operation, one, groups, in_first, local_names, labels, steps, slots, has_other, tree_of, trees_of, sets_before, field_trees, setting_trees, arm_trees, right_sides_before}
use Rattle.tla_tree.specs.Spelling as spelled
use Rattle.tla_tree.specs.laws.Bracketed.{Part, nowhere}
use Rattle.tla_tree.specs.laws.Placeless.{name_placeless, names_placeless, slot_placeless, form_placeless, tree_placeless, trees_placeless}
use Rattle.tla_tree.specs.laws.Bracketed as b
use Rattle.tla_tree.specs.laws.Writable.{IsWritable, AreWritable}
use Rattle.tla_tree.proofs.WrittenPhrase.{counted}

abbrev Alike : Tree → Tree → Type 0
Alike t u = tree_placeless t ≡ tree_placeless u

abbrev AllAlike : Trees → Trees → Type 0
AllAlike ts us = trees_placeless ts ≡ trees_placeless us

-- a part has the tree, in brackets or not
abbrev Has : Part → Tree → Type 0
Has a t = (o : Bool) → Alike (tree_of (a o)) t

abbrev Have : List Part → Trees → Type 0
Have [] no_trees = Unit {0}
Have (a ∷ xs) (tree t ts) = Has a t × Have xs ts
Have xs ts = ⊥

-- ---- operators
strict_is : (o : Op) → is_strict o ≡ true → operation o ≡ tree.strict (tree.operator o)
strict_is op.And h = absurd cc
strict_is op.Or h = absurd cc
strict_is op.Implies h = absurd cc
strict_is op.In h = absurd cc
strict_is op.NotIn h = absurd cc
strict_is o h = refl

infix_tree : (o : Op) (m : Form) → form_placeless (operation o) ≡ form_placeless m → (xs : List Part) (ts : Trees) → length xs ≡ operands (is_prefix o) → Have xs ts → (p : Place) → Alike (tree_of (b.infix_phrase o xs)) (node m p ts)
infix_tree o m h (a ∷ []) (tree t no_trees) n g p = λ i. node (h i) nowhere (tree (g.0 true i) no_trees)
infix_tree o m h (a ∷ c ∷ []) (tree t (tree u no_trees)) n g p = λ i. node (h i) nowhere (tree (g.0 true i) (tree (g.1.0 true i) no_trees))
infix_tree o m h [] ts n g p = absurd (none (is_prefix o) n)
  where
    none : (p : Bool) → ◌≡◌ {A = ℕ} 0 (operands p) → ⊥
    none true h = omega (arith, h)
    none false h = omega (arith, h)
infix_tree o m h (a ∷ c ∷ d ∷ xs) ts n g p = absurd (many (is_prefix o) n)
  where
    many : (p : Bool) → ◌≡◌ {A = ℕ} (length (a ∷ c ∷ d ∷ xs)) (operands p) → ⊥
    many true h = omega (arith, h)
    many false h = omega (arith, h)
infix_tree o m h (a ∷ []) no_trees n g p = absurd g
infix_tree o m h (a ∷ []) (tree t (tree u ts)) n g p = absurd g.1
infix_tree o m h (a ∷ c ∷ []) no_trees n g p = absurd g
infix_tree o m h (a ∷ c ∷ []) (tree t no_trees) n g p = absurd g.1
infix_tree o m h (a ∷ c ∷ []) (tree t (tree u (tree v ts))) n g p = absurd g.1.1

-- ---- lists
listed_trees : (a : Part) (xs : List Part) (ts : Trees) → Have (a ∷ xs) ts → AllAlike (trees_of (b.phrases a xs)) ts
listed_trees a [] (tree t no_trees) g = λ i. tree (g.0 false i) no_trees
listed_trees a (c ∷ xs) (tree t ts) g = λ i. tree (g.0 false i) (listed_trees c xs ts g.1 i)
listed_trees a [] no_trees g = absurd g
listed_trees a [] (tree t (tree u ts)) g = absurd g.1
listed_trees a (c ∷ xs) no_trees g = absurd g

field_labels : (x : Word) (a : Part) (ys : List Word) (xs : List Part) → length ys ≡ length xs → labels (b.fields_of x a ys xs) ≡ x ∷ ys
field_labels x a [] [] n = refl
field_labels x a (y ∷ ys) (c ∷ xs) n = ap (λ (zs : List Word). x ∷ zs) (field_labels y c ys xs (omega (arith, n)))
field_labels x a [] (c ∷ xs) n = absurd (omega (arith, n))
field_labels x a (y ∷ ys) [] n = absurd (omega (arith, n))

trees_in_fields : (x : Word) (a : Part) (ys : List Word) (xs : List Part) (ts : Trees) → length ys ≡ length xs → Have (a ∷ xs) ts → AllAlike (field_trees (b.fields_of x a ys xs)) ts
trees_in_fields x a [] [] (tree t no_trees) n g = λ i. tree (g.0 false i) no_trees
trees_in_fields x a (y ∷ ys) (c ∷ xs) (tree t ts) n g = λ i. tree (g.0 false i) (trees_in_fields y c ys xs ts (omega (arith, n)) g.1 i)
trees_in_fields x a [] (c ∷ xs) ts n g = absurd (omega (arith, n))
trees_in_fields x a (y ∷ ys) [] ts n g = absurd (omega (arith, n))
trees_in_fields x a [] [] no_trees n g = absurd g
trees_in_fields x a [] [] (tree t (tree u ts)) n g = absurd g.1
trees_in_fields x a (y ∷ ys) (c ∷ xs) no_trees n g = absurd g

-- ---- bound names
abbrev bare : List (List Name) → List (List Name)
bare gs = map names_placeless gs

group_names : (x : Name) (ys : List Name) (k : Word → Binds) (rest : List (List Name)) → ((v : Word) → bare (groups (k v)) ≡ (record { word = v; place = nowhere } ∷ []) ∷ rest) → bare (groups (b.group_of x ys k)) ≡ names_placeless (x ∷ ys) ∷ rest
group_names x [] k rest h = h x.word
group_names x (y ∷ ys) k rest h = first (groups (b.group_of y ys k)) (group_names y ys k rest h)
  where
    first : (gs : List (List Name)) → bare gs ≡ names_placeless (y ∷ ys) ∷ rest → bare (in_first (record { word = x.word; place = nowhere }) gs) ≡ names_placeless (x ∷ y ∷ ys) ∷ rest
    first [] e = absurd cc
    first (g ∷ gs) e = (let one : names_placeless g ≡ names_placeless (y ∷ ys) = cc in let other : bare gs ≡ rest = cc in λ i. (name_placeless x ∷ one i) ∷ other i)

group_sets : (x : Name) (ys : List Name) (k : Word → Binds) (ts us : Trees) → ((v : Word) → AllAlike (sets_before (k v) ts) us) → AllAlike (sets_before (b.group_of x ys k) ts) us
group_sets x [] k ts us h = h x.word
group_sets x (y ∷ ys) k ts us h = group_sets y ys k ts us h

bind_names : (x : Name) (ys : List Name) (a : Part) (gs : List (List Name)) (xs : List Part) → HaveNames ((x ∷ ys) ∷ gs) → length xs ≡ suc (length gs) → bare (groups (b.binds_of x ys a gs xs)) ≡ bare ((x ∷ ys) ∷ gs)
bind_names x ys a [] xs h n = group_names x ys (λ v. spelled.last_bind nowhere v nowhere (a true)) [] (λ v. refl)
bind_names x ys a ((y ∷ us) ∷ gs) (c ∷ xs) h n = group_names x ys (λ v. spelled.bind nowhere v nowhere (a true) nowhere (b.binds_of y us c gs xs)) (bare ((y ∷ us) ∷ gs)) (λ v i. (record { word = v; place = nowhere } ∷ []) ∷ bind_names y us c gs xs h.1 (omega (arith, n)) i)
bind_names x ys a ([] ∷ []) xs h n = absurd (omega (arith, h.1))
bind_names x ys a ([] ∷ k ∷ gs) xs h n = absurd (omega (arith, h.1.0))
bind_names x ys a ((y ∷ us) ∷ gs) [] h n = absurd (omega (arith, n))

-- the sets, and then the body
bind_sets : (x : Name) (ys : List Name) (a : Part) (gs : List (List Name)) (xs : List Part) (ts : Trees) (o : Bool) → HaveNames ((x ∷ ys) ∷ gs) → length xs ≡ suc (length gs) → Have (a ∷ xs) ts → AllAlike (sets_before (b.binds_of x ys a gs xs) (one (tree_of (b.body gs xs o)))) ts
bind_sets x ys a [] (c ∷ []) (tree t (tree u no_trees)) o h n g = group_sets x ys (λ v. spelled.last_bind nowhere v nowhere (a true)) _ (tree t (tree u no_trees)) (λ v i. tree (g.0 true i) (tree (g.1.0 o i) no_trees))
bind_sets x ys a ((y ∷ us) ∷ gs) (c ∷ xs) (tree t ts) o h n g = group_sets x ys (λ v. spelled.bind nowhere v nowhere (a true) nowhere (b.binds_of y us c gs xs)) _ (tree t ts) (λ v i. tree (g.0 true i) (bind_sets y us c gs xs ts o h.1 (omega (arith, n)) g.1 i))
bind_sets x ys a [] [] ts o h n g = absurd (omega (arith, n))
bind_sets x ys a [] (c ∷ d ∷ xs) ts o h n g = absurd (omega (arith, n))
bind_sets x ys a [] (c ∷ []) no_trees o h n g = absurd g
bind_sets x ys a [] (c ∷ []) (tree t no_trees) o h n g = absurd g.1
bind_sets x ys a [] (c ∷ []) (tree t (tree u (tree v ts))) o h n g = absurd g.1.1
bind_sets x ys a ([] ∷ []) xs ts o h n g = absurd (omega (arith, h.1))
bind_sets x ys a ([] ∷ k ∷ gs) xs ts o h n g = absurd (omega (arith, h.1.0))
bind_sets x ys a ((y ∷ us) ∷ gs) [] ts o h n g = absurd (omega (arith, n))
bind_sets x ys a ((y ∷ us) ∷ gs) (c ∷ xs) no_trees o h n g = absurd g

local_words : (x : Name) (a : Part) (ys : List Name) (xs : List Part) → length xs ≡ suc (length ys) → names_placeless (local_names (b.locals_of x a ys xs)) ≡ names_placeless (x ∷ ys)
local_words x a [] xs n = refl
local_words x a (y ∷ ys) (c ∷ xs) n = λ i. name_placeless x ∷ local_words y c ys xs (omega (arith, n)) i
local_words x a (y ∷ ys) [] n = absurd (omega (arith, n))

local_sides : (x : Name) (a : Part) (ys : List Name) (xs : List Part) (ts : Trees) → length xs ≡ suc (length ys) → Have (a ∷ xs) ts → AllAlike (right_sides_before (b.locals_of x a ys xs) (one (tree_of (b.body ys xs false)))) ts
local_sides x a [] (c ∷ []) (tree t (tree u no_trees)) n g = λ i. tree (g.0 false i) (tree (g.1.0 false i) no_trees)
local_sides x a (y ∷ ys) (c ∷ xs) (tree t ts) n g = λ i. tree (g.0 false i) (local_sides y c ys xs ts (omega (arith, n)) g.1 i)
local_sides x a [] [] ts n g = absurd (omega (arith, n))
local_sides x a [] (c ∷ d ∷ xs) ts n g = absurd (omega (arith, n))
local_sides x a [] (c ∷ []) no_trees n g = absurd g
local_sides x a [] (c ∷ []) (tree t no_trees) n g = absurd g.1
local_sides x a [] (c ∷ []) (tree t (tree u (tree v ts))) n g = absurd g.1.1
local_sides x a (y ∷ ys) [] ts n g = absurd (omega (arith, n))
local_sides x a (y ∷ ys) (c ∷ xs) no_trees n g = absurd g

-- ---- EXCEPT
record PathTree (ss : List PathStep) (xs : List Part) (ts : Trees) (n : ℕ) : Type 0 where
  path : Path
  left : List Part
  rest : Trees
  gives : (k : Path → List Part → Phrase) → b.path_of ss xs k ≡ k path left
  have : Have left rest
  long : length left ≡ n
  is : steps path ≡ ss
  trees : (us : Trees) → AllAlike us rest → AllAlike (spelled.subscripts path us) ts

path_tree : (ss : List PathStep) (xs : List Part) (ts : Trees) (n : ℕ) → length xs ≡ subscripts ss + n → Have xs ts → PathTree ss xs ts n
path_tree [] xs ts n h g = record { path = spelled.path_end; left = xs; rest = ts; gives = λ k. refl; have = g; long = omega (arith, h); is = refl; trees = λ us s. s }
path_tree (tree.index ∷ ss) (a ∷ xs) (tree t ts) n h g =
    let v = path_tree ss xs ts n (omega (arith, h)) g.1 in
    record { path = spelled.index nowhere (spelled.last (a false)) nowhere v.path; left = v.left; rest = v.rest; gives = λ k. v.gives _; have = v.have; long = v.long; is = λ i. tree.index ∷ v.is i; trees = λ us s i. tree (g.0 false i) (v.trees us s i) }
path_tree (tree.field x ∷ ss) xs ts n h g =
    let v = path_tree ss xs ts n h g in
    record { path = spelled.at_field nowhere (b.field_of x) v.path; left = v.left; rest = v.rest; gives = λ k. v.gives _; have = v.have; long = v.long; is = λ i. tree.field x ∷ v.is i; trees = v.trees }
path_tree (tree.index ∷ ss) [] ts n h g = absurd (omega (arith, h))
path_tree (tree.index ∷ ss) (a ∷ xs) no_trees n h g = absurd g

abbrev bare_slots : List Slot → List Slot
bare_slots ss = map slot_placeless ss

record SettingsTree (t : Slot) (ss : List Slot) (xs : List Part) (ts : Trees) : Type 0 where
  made : Settings
  gives : (k : Settings → Phrase) → b.slots_of t ss xs k ≡ k made
  is : (at : Place) → bare_slots (slots at made) ≡ bare_slots (t ∷ ss)
  trees : AllAlike (setting_trees made) ts

one_setting : (t : Slot) (xs : List Part) (ts : Trees) → PathTree t.path xs ts 1 → SettingsTree t [] xs ts
one_setting t xs ts v = at v.left v.rest v.have v.long v.gives v.trees
  where
    at : (left : List Part) (rest : Trees) → Have left rest → length left ≡ 1 → ((k : Path → List Part → Phrase) → b.path_of t.path xs k ≡ k v.path left) → ((us : Trees) → AllAlike us rest → AllAlike (spelled.subscripts v.path us) ts) → SettingsTree t [] xs ts
    at (a ∷ []) (tree u no_trees) g n i h = record { made = spelled.last_setting nowhere v.path nowhere (a false); gives = λ k. i _; is = λ p i. record { path = v.is i; place = nowhere } ∷ []; trees = h _ (λ i. tree (g.0 false i) no_trees) }
    at [] us g n i h = absurd (omega (arith, n))
    at (a ∷ c ∷ rs) us g n i h = absurd (omega (arith, n))
    at (a ∷ []) no_trees g n i h = absurd g
    at (a ∷ []) (tree u (tree w us)) g n i h = absurd g.1

more_settings : (t u : Slot) (ss : List Slot) (xs : List Part) (ts : Trees) (n : ℕ) → PathTree t.path xs ts (suc n) → ((left : List Part) (rest : Trees) → length left ≡ n → Have left rest → SettingsTree u ss left rest) → SettingsTree t (u ∷ ss) xs ts
more_settings t u ss xs ts n v more = at v.left v.rest v.have v.long v.gives v.trees
  where
    at : (left : List Part) (rest : Trees) → Have left rest → length left ≡ suc n → ((k : Path → List Part → Phrase) → b.path_of t.path xs k ≡ k v.path left) → ((us : Trees) → AllAlike us rest → AllAlike (spelled.subscripts v.path us) ts) → SettingsTree t (u ∷ ss) xs ts
    at (a ∷ rs) (tree w us) g l i h =
        let r = more rs us (omega (arith, l)) g.1 in
        record { made = spelled.setting nowhere v.path nowhere (a false) nowhere r.made; gives = λ k. i _ ∙ r.gives _; is = λ p i. record { path = v.is i; place = nowhere } ∷ r.is p i; trees = h _ (λ i. tree (g.0 false i) (r.trees i)) }
    at [] us g l i h = absurd (omega (arith, l))
    at (a ∷ rs) no_trees g l i h = absurd g

settings_tree : (t : Slot) (ss : List Slot) (xs : List Part) (ts : Trees) → length xs ≡ settings (t ∷ ss) → Have xs ts → SettingsTree t ss xs ts
settings_tree t [] xs ts n g = one_setting t xs ts (path_tree t.path xs ts 1 (omega (arith, n)) g)
settings_tree t (u ∷ ss) xs ts n g = more_settings t u ss xs ts (settings (u ∷ ss)) (path_tree t.path xs ts (suc (settings (u ∷ ss))) (omega (arith, n)) g) (λ left rest m i. settings_tree u ss left rest m i)

-- ---- CASE
record ArmsTree (o : Bool) (xs : List Part) (ts : Trees) : Type 0 where
  made : Arms
  gives : (k : Arms → Phrase) → b.arms_of o xs k ≡ k made
  is : has_other made ≡ o
  trees : AllAlike (arm_trees made) ts

arms_tree : (o : Bool) (xs : List Part) (ts : Trees) → CaseShaped o (length xs) → Have xs ts → ArmsTree o xs ts
arms_tree false (c ∷ a ∷ []) (tree t (tree u no_trees)) h g = record { made = spelled.last_arm (c true) nowhere (a true); gives = λ k. refl; is = refl; trees = λ i. tree (g.0 true i) (tree (g.1.0 true i) no_trees) }
arms_tree true (c ∷ a ∷ d ∷ []) (tree t (tree u (tree v no_trees))) h g = record { made = spelled.other_arm (c true) nowhere (a true) nowhere nowhere nowhere (d true); gives = λ k. refl; is = refl; trees = λ i. tree (g.0 true i) (tree (g.1.0 true i) (tree (g.1.1.0 true i) no_trees)) }
arms_tree true (c ∷ a ∷ d ∷ e ∷ xs) (tree t (tree u (tree v (tree w ts)))) h g =
    let r = arms_tree true (d ∷ e ∷ xs) (tree v (tree w ts)) (fewer (length xs) h) g.1.1 in
    record { made = spelled.arm (c true) nowhere (a true) nowhere r.made; gives = λ k. r.gives _; is = r.is; trees = λ i. tree (g.0 true i) (tree (g.1.0 true i) (r.trees i)) }
  where
    fewer : (n : ℕ) → CaseShaped true (suc (suc (suc (suc n)))) → CaseShaped true (suc (suc n))
    fewer n h = h
arms_tree false (c ∷ a ∷ d ∷ xs) (tree t (tree u (tree v ts))) h g =
    let r = arms_tree false (d ∷ xs) (tree v ts) h g.1.1 in
    record { made = spelled.arm (c true) nowhere (a true) nowhere r.made; gives = λ k. r.gives _; is = r.is; trees = λ i. tree (g.0 true i) (tree (g.1.0 true i) (r.trees i)) }
arms_tree false [] ts h g = absurd h
arms_tree false (c ∷ []) ts h g = absurd h
arms_tree false (c ∷ a ∷ xs) no_trees h g = absurd g
arms_tree false (c ∷ a ∷ xs) (tree t no_trees) h g = absurd g.1
arms_tree false (c ∷ a ∷ []) (tree t (tree u (tree v ts))) h g = absurd g.1.1
arms_tree false (c ∷ a ∷ d ∷ xs) (tree t (tree u no_trees)) h g = absurd g.1.1
arms_tree true [] ts h g = absurd h
arms_tree true (c ∷ []) ts h g = absurd h
arms_tree true (c ∷ a ∷ []) ts h g = absurd h
arms_tree true (c ∷ a ∷ d ∷ xs) no_trees h g = absurd g
arms_tree true (c ∷ a ∷ d ∷ xs) (tree t no_trees) h g = absurd g.1
arms_tree true (c ∷ a ∷ d ∷ xs) (tree t (tree u no_trees)) h g = absurd g.1.1
arms_tree true (c ∷ a ∷ d ∷ []) (tree t (tree u (tree v (tree w ts)))) h g = absurd g.1.1.1
arms_tree true (c ∷ a ∷ d ∷ e ∷ xs) (tree t (tree u (tree v no_trees))) h g = absurd g.1.1.1

-- ---- all forms
pair_tree : (m : Form) (f : List Part → Phrase) → ((a c : Part) (t u : Tree) → Has a t → Has c u → (p : Place) → Alike (tree_of (f (a ∷ c ∷ []))) (node m p (tree t (tree u no_trees)))) → (xs : List Part) (ts : Trees) → length xs ≡ 2 → Have xs ts → (p : Place) → Alike (tree_of (f xs)) (node m p ts)
pair_tree m f h (a ∷ c ∷ []) (tree t (tree u no_trees)) n g p = h a c t u g.0 g.1.0 p
pair_tree m f h [] ts n g p = absurd (omega (arith, n))
pair_tree m f h (a ∷ []) ts n g p = absurd (omega (arith, n))
pair_tree m f h (a ∷ c ∷ d ∷ xs) ts n g p = absurd (omega (arith, n))
pair_tree m f h (a ∷ c ∷ []) no_trees n g p = absurd g
pair_tree m f h (a ∷ c ∷ []) (tree t no_trees) n g p = absurd g.1
pair_tree m f h (a ∷ c ∷ []) (tree t (tree u (tree v ts))) n g p = absurd g.1.1

strict_tree : (m : Strict) (xs : List Part) (ts : Trees) → StrictShaped m (length xs) → Have xs ts → (p : Place) → Alike (tree_of (b.strict_phrase m xs)) (node (tree.strict m) p ts)
strict_tree (tree.operator o) xs ts h g p = infix_tree o (tree.strict (tree.operator o)) (ap form_placeless (strict_is o h.0)) xs ts h.1 g p
strict_tree tree.set_of [] no_trees h g p = refl
strict_tree tree.set_of [] (tree t ts) h g p = absurd g
strict_tree tree.set_of (a ∷ xs) ts h g p = λ i. node (tree.strict tree.set_of) nowhere (listed_trees a xs ts g i)
strict_tree tree.tuple [] no_trees h g p = refl
strict_tree tree.tuple [] (tree t ts) h g p = absurd g
strict_tree tree.tuple (a ∷ xs) ts h g p = λ i. node (tree.strict tree.tuple) nowhere (listed_trees a xs ts g i)
strict_tree (tree.fields (y ∷ ys)) (a ∷ xs) ts h g p = λ i. node (tree.strict (tree.fields (field_labels y a ys xs (omega (arith, h.1)) i))) nowhere (trees_in_fields y a ys xs ts (omega (arith, h.1)) g i)
strict_tree (tree.fields ys) [] ts h g p = absurd (omega (arith, h.0))
strict_tree (tree.fields []) (a ∷ xs) ts h g p = absurd (omega (arith, h.1))
strict_tree (tree.records (y ∷ ys)) (a ∷ xs) ts h g p = λ i. node (tree.strict (tree.records (field_labels y a ys xs (omega (arith, h.1)) i))) nowhere (trees_in_fields y a ys xs ts (omega (arith, h.1)) g i)
strict_tree (tree.records ys) [] ts h g p = absurd (omega (arith, h.0))
strict_tree (tree.records []) (a ∷ xs) ts h g p = absurd (omega (arith, h.1))
strict_tree tree.functions xs ts h g p = pair_tree (tree.strict tree.functions) (b.strict_phrase tree.functions) (λ a c t u j k p i. node (tree.strict tree.functions) nowhere (tree (j false i) (tree (k false i) no_trees))) xs ts h g p
strict_tree tree.apply xs ts h g p = pair_tree (tree.strict tree.apply) (b.strict_phrase tree.apply) (λ a c t u j k p i. node (tree.strict tree.apply) nowhere (tree (j true i) (tree (k false i) no_trees))) xs ts h g p
strict_tree (tree.select x) (a ∷ []) (tree t no_trees) h g p = λ i. node (tree.strict (tree.select x)) nowhere (tree (g.0 true i) no_trees)
strict_tree (tree.select x) [] ts h g p = absurd (omega (arith, h))
strict_tree (tree.select x) (a ∷ c ∷ xs) ts h g p = absurd (omega (arith, h))
strict_tree (tree.select x) (a ∷ []) no_trees h g p = absurd g
strict_tree (tree.select x) (a ∷ []) (tree t (tree u ts)) h g p = absurd g.1
strict_tree (tree.except (s ∷ ss)) (a ∷ xs) (tree t ts) h g p =
    let v = settings_tree s ss xs ts (omega (arith, h.1)) g.1 in
    ap (λ (x : Phrase). tree_placeless (tree_of x)) (v.gives _) ∙ (λ i. node (tree.strict (tree.except (v.is nowhere i))) nowhere (tree (g.0 true i) (v.trees i)))
strict_tree (tree.except []) xs ts h g p = absurd h.0
strict_tree (tree.except (s ∷ ss)) [] ts h g p = absurd (omega (arith, h.1))
strict_tree (tree.except (s ∷ ss)) (a ∷ xs) no_trees h g p = absurd g

bound_tree : (o : Binder) (gs : List (List Name)) (xs : List Part) (ts : Trees) → BinderShaped o gs (length xs) → Have xs ts → (p : Place) → Alike (tree_of (b.bound_phrase o gs xs)) (node (tree.binding o gs) p ts)
bound_tree binder.ForAll ((x ∷ ys) ∷ gs) (a ∷ xs) ts h g p = λ i. node (tree.binding binder.ForAll (bind_names x ys a gs xs h.0 (omega (arith, h.1)) i)) nowhere (bind_sets x ys a gs xs ts false h.0 (omega (arith, h.1)) g i)
bound_tree binder.ForAll [] xs ts h g p = absurd h.0
bound_tree binder.ForAll ([] ∷ []) xs ts h g p = absurd (omega (arith, h.0))
bound_tree binder.ForAll ([] ∷ k ∷ gs) xs ts h g p = absurd (omega (arith, h.0.0))
bound_tree binder.ForAll ((x ∷ ys) ∷ gs) [] ts h g p = absurd (omega (arith, h.1))
bound_tree binder.Exists ((x ∷ ys) ∷ gs) (a ∷ xs) ts h g p = λ i. node (tree.binding binder.Exists (bind_names x ys a gs xs h.0 (omega (arith, h.1)) i)) nowhere (bind_sets x ys a gs xs ts false h.0 (omega (arith, h.1)) g i)
bound_tree binder.Exists [] xs ts h g p = absurd h.0
bound_tree binder.Exists ([] ∷ []) xs ts h g p = absurd (omega (arith, h.0))
bound_tree binder.Exists ([] ∷ k ∷ gs) xs ts h g p = absurd (omega (arith, h.0.0))
bound_tree binder.Exists ((x ∷ ys) ∷ gs) [] ts h g p = absurd (omega (arith, h.1))
bound_tree binder.Image ((x ∷ ys) ∷ gs) (a ∷ xs) ts h g p = λ i. node (tree.binding binder.Image (bind_names x ys a gs xs h.0 (omega (arith, h.1)) i)) nowhere (bind_sets x ys a gs xs ts true h.0 (omega (arith, h.1)) g i)
bound_tree binder.Image [] xs ts h g p = absurd h.0
bound_tree binder.Image ([] ∷ []) xs ts h g p = absurd (omega (arith, h.0))
bound_tree binder.Image ([] ∷ k ∷ gs) xs ts h g p = absurd (omega (arith, h.0.0))
bound_tree binder.Image ((x ∷ ys) ∷ gs) [] ts h g p = absurd (omega (arith, h.1))
bound_tree binder.Function ((x ∷ ys) ∷ gs) (a ∷ xs) ts h g p = λ i. node (tree.binding binder.Function (bind_names x ys a gs xs h.0 (omega (arith, h.1)) i)) nowhere (bind_sets x ys a gs xs ts false h.0 (omega (arith, h.1)) g i)
bound_tree binder.Function [] xs ts h g p = absurd h.0
bound_tree binder.Function ([] ∷ []) xs ts h g p = absurd (omega (arith, h.0))
bound_tree binder.Function ([] ∷ k ∷ gs) xs ts h g p = absurd (omega (arith, h.0.0))
bound_tree binder.Function ((x ∷ ys) ∷ gs) [] ts h g p = absurd (omega (arith, h.1))
bound_tree binder.Filter ((x ∷ []) ∷ []) (a ∷ c ∷ []) (tree t (tree u no_trees)) h g p = λ i. node (tree.binding binder.Filter ((name_placeless x ∷ []) ∷ [])) nowhere (tree (g.0 true i) (tree (g.1.0 false i) no_trees))
bound_tree binder.Filter [] xs ts h g p = absurd h.0
bound_tree binder.Filter ([] ∷ gs) xs ts h g p = absurd h.0
bound_tree binder.Filter ((x ∷ []) ∷ k ∷ gs) xs ts h g p = absurd h.0
bound_tree binder.Filter ((x ∷ y ∷ ys) ∷ gs) xs ts h g p = absurd h.0
bound_tree binder.Filter ((x ∷ []) ∷ []) [] ts h g p = absurd (omega (arith, h.1))
bound_tree binder.Filter ((x ∷ []) ∷ []) (a ∷ []) ts h g p = absurd (omega (arith, h.1))
bound_tree binder.Filter ((x ∷ []) ∷ []) (a ∷ c ∷ d ∷ xs) ts h g p = absurd (omega (arith, h.1))
bound_tree binder.Filter ((x ∷ []) ∷ []) (a ∷ c ∷ []) no_trees h g p = absurd g
bound_tree binder.Filter ((x ∷ []) ∷ []) (a ∷ c ∷ []) (tree t no_trees) h g p = absurd g.1
bound_tree binder.Filter ((x ∷ []) ∷ []) (a ∷ c ∷ []) (tree t (tree u (tree v ts))) h g p = absurd g.1.1

choice_tree : (xs : List Part) (ts : Trees) → length xs ≡ 3 → Have xs ts → (p : Place) → Alike (tree_of (b.choice_phrase xs)) (node tree.if_then_else p ts)
choice_tree (a ∷ c ∷ d ∷ []) (tree t (tree u (tree v no_trees))) n g p = λ i. node tree.if_then_else nowhere (tree (g.0 false i) (tree (g.1.0 false i) (tree (g.1.1.0 false i) no_trees)))
choice_tree [] ts n g p = absurd (omega (arith, n))
choice_tree (a ∷ []) ts n g p = absurd (omega (arith, n))
choice_tree (a ∷ c ∷ []) ts n g p = absurd (omega (arith, n))
choice_tree (a ∷ c ∷ d ∷ e ∷ xs) ts n g p = absurd (omega (arith, n))
choice_tree (a ∷ c ∷ d ∷ []) no_trees n g p = absurd g
choice_tree (a ∷ c ∷ d ∷ []) (tree t no_trees) n g p = absurd g.1
choice_tree (a ∷ c ∷ d ∷ []) (tree t (tree u no_trees)) n g p = absurd g.1.1
choice_tree (a ∷ c ∷ d ∷ []) (tree t (tree u (tree v (tree w ts)))) n g p = absurd g.1.1.1

leaf : (m : Form) (xs : List Part) (ts : Trees) → length xs ≡ 0 → Have xs ts → (p : Place) → Alike (node m nowhere no_trees) (node m p ts)
leaf m [] no_trees n g p = refl
leaf m [] (tree t ts) n g p = absurd g
leaf m (a ∷ xs) ts n g p = absurd (omega (arith, n))

form_tree : (m : Form) (xs : List Part) (ts : Trees) → Shaped m (length xs) → Have xs ts → (p : Place) → Alike (tree_of (b.form_phrase m xs)) (node m p ts)
form_tree (tree.number n) xs ts h g p = leaf (tree.number n) xs ts h.1 g p
form_tree (tree.string x) xs ts h g p = leaf (tree.string x) xs ts h g p
form_tree (tree.truth o) xs ts h g p = leaf (tree.truth o) xs ts h g p
form_tree tree.booleans xs ts h g p = leaf tree.booleans xs ts h g p
form_tree tree.strings xs ts h g p = leaf tree.strings xs ts h g p
form_tree (tree.name x) xs ts h g p = leaf (tree.name x) xs ts h g p
form_tree (tree.next x) xs ts h g p = leaf (tree.next x) xs ts h g p
form_tree (tree.strict m) xs ts h g p = strict_tree m xs ts h g p
form_tree (tree.operator_call x) (a ∷ xs) ts h g p = λ i. node (tree.operator_call x) nowhere (listed_trees a xs ts g i)
form_tree (tree.operator_call x) [] ts h g p = absurd (omega (arith, h))
form_tree tree.conjunction xs ts h g p = infix_tree op.And tree.conjunction refl xs ts h g p
form_tree tree.disjunction xs ts h g p = infix_tree op.Or tree.disjunction refl xs ts h g p
form_tree tree.implication xs ts h g p = infix_tree op.Implies tree.implication refl xs ts h g p
form_tree (tree.member true) xs ts h g p = infix_tree op.In (tree.member true) refl xs ts h g p
form_tree (tree.member false) xs ts h g p = infix_tree op.NotIn (tree.member false) refl xs ts h g p
form_tree tree.if_then_else xs ts h g p = choice_tree xs ts h g p
form_tree (tree.cases o) xs ts h g p = (let v = arms_tree o xs ts h g in ap (λ (x : Phrase). tree_placeless (tree_of x)) (v.gives _) ∙ (λ i. node (tree.cases (v.is i)) nowhere (v.trees i)))
form_tree (tree.binding o gs) xs ts h g p = bound_tree o gs xs ts h g p
form_tree (tree.local (y ∷ ys)) (a ∷ xs) ts h g p = λ i. node (tree.local (local_words y a ys xs (omega (arith, h.1)) i)) nowhere (local_sides y a ys xs ts (omega (arith, h.1)) g i)
form_tree (tree.local []) xs ts h g p = absurd (omega (arith, h.0))
form_tree (tree.local (y ∷ ys)) [] ts h g p = absurd (omega (arith, h.1))

in_brackets : (o : Bool) (a : Phrase) → tree_of (b.in_brackets o a) ≡ tree_of a
in_brackets true a = refl
in_brackets false a = refl

part_tree : (m : Form) (xs : List Part) (ts : Trees) → Shaped m (length xs) → Have xs ts → (p : Place) → Has (b.form_part m xs) (node m p ts)
part_tree m xs ts h g p false = form_tree m xs ts h g p
part_tree m xs ts h g p true = ap tree_placeless (in_brackets _ (b.form_phrase m xs)) ∙ form_tree m xs ts h g p

mutual
  has_tree : (t : Tree) → IsWritable t → Has (b.part t) t
  has_tree (node m at ts) v = part_tree m (b.parts ts) ts (subst (λ (n : ℕ). Shaped m n) (counted ts) v.0) (have_trees ts v.4) at

  have_trees : (ts : Trees) → AreWritable ts → Have (b.parts ts) ts
  have_trees no_trees v = tt
  have_trees (tree t ts) v = (has_tree t v.0, have_trees ts v.1)

pub written_tree : (t : Tree) → IsWritable t → tree_placeless (tree_of (b.phrase_of t)) ≡ tree_placeless t
written_tree t v = has_tree t v false

pub written_part_tree : (t : Tree) → IsWritable t → (o : Bool) → tree_placeless (tree_of (b.part t o)) ≡ tree_placeless t
written_part_tree t v o = has_tree t v o
