-- What is kept in memory of what a unit sees, as definitions are added and names are bound.
use Rattle.std.proofs.Common.{◌≡◌, ℕ, zero, suc, ◌+◌, ◌<◌, take, drop, get_or, append-nil, append_assoc, Vec, Global, Bool, true, false, not, ◌&&◌, ◌||◌, nat_eq, List, [], ◌∷◌, ◌++◌, length, Option, Some, None, refl, sym, ap, ◌∙◌, subst, arith, cond, bytes_eq, eqb-true}
use Rattle.std.specs.List.{list_any, flat_map}
use Rattle.std.proofs.lemmas.List.{take_more, drop_more, map-append}
use Rattle.std.proofs.lemmas.Grind.{flat_map-append}
use Rattle.std.proofs.Math.Seq.{take-append_seam}
use Rattle.std.proofs.lemmas.List.Folds.{list_any-append}
use Rattle.tla_token.specs.Signs.{is_among}
use Rattle.tla_token.specs.Words.{is_standard}
use Rattle.tla_tree.specs.Tree.{Word, Name, words, Form, name, operator_call}
use Rattle.tla_value.specs.Definitions.{Definition}
use Rattle.tla_value.specs.DefinitionNesting.{Depths, depth_of_use, definition_nests, depths, used}
use Rattle.tla_pool.specs.FormOf.{groups_of}
use Rattle.module_tree.specs.Outside as pure
use Rattle.module_tree.specs.Outside.{is_fresh, are_fresh, is_defined, arity}
use Rattle.outside_reading.proofs.Earlier.{arity_more, depths_more}
use Rattle.algorithm_limits.specs.Numbers.{Numbers, number_of, with_number}
use Rattle.algorithm_limits.specs.DepthsIn.{Hides}
use Rattle.algorithm_limits.proofs.Tables.{equal, same_test, number_of_with}
use Rattle.module_outside.specs.declared.modules.Modules.{Modules}
use Rattle.module_outside.specs.declared.sight.Sight.{Sight}
use Rattle.module_outside.specs.ModulesIn.{AreModules}
use Rattle.module_outside.specs.SightIn.{Binds, past_arity, Sees, used_depth, fresh_in}
use Rattle.module_outside.proofs.ModuleLaws.{standard_given}

-- ---- names that are bound

among_any : (bs : List Word) (x : Word) → list_any (equal x) bs ≡ is_among bs x
among_any [] x = refl
among_any (b ∷ bs) x = λ i. same_test x b i || among_any bs x i

-- further names before those that are bound
pub binds_more : (hs new xs bs : List Word) → Binds hs bs → Hides hs new xs → Binds new (xs ++ bs)
binds_more hs new xs bs b h x =
    h.has x ∙ list_any-append (equal x) hs xs ∙ (λ i. b x i || among_any xs x i) ∙ turned (is_among bs x) (is_among xs x)
    ∙ sym (list_any-append (λ (v : Word). bytes_eq v x) xs bs)
  where
    turned : (a b : Bool) → (a || b) ≡ (b || a)
    turned true true = refl
    turned true false = refl
    turned false true = refl
    turned false false = refl

pub none_bound : Binds [] []
none_bound x = refl

pub binds_all : (new xs : List Word) → Hides [] new xs → Binds new xs
binds_all new xs h x = h.has x ∙ among_any xs x

-- ---- definitions

pub none_seen : (m : Modules) (cs : List Word) (rs ds : Numbers) (ms xs : List Word) → rs ≡ [] → ds ≡ [] → AreModules m ms → Hides [] cs xs
    → Sees (record { modules = m; constants = cs; arities = rs; depths = ds }) (record { modules = ms; constants = xs; earlier = [] })
none_seen m cs rs ds ms xs a d h k = record { modules = h; constants = binds_all cs xs k; arities = λ x. ap (λ (z : Numbers). number_of z x) a; depths = λ x. ap (λ (z : Numbers). number_of z x) d }

pub one_defined : (s t : Sight) (v : pure.Sight) (d : Definition) (title : Word) (params depth : ℕ) → t.modules ≡ s.modules → t.constants ≡ s.constants
    → t.arities ≡ with_number s.arities title (params + 1) → t.depths ≡ with_number s.depths title (depth + 1)
    → Sees s v → d.title ≡ title → length d.params ≡ params → definition_nests (depths [] v.earlier) d ≡ depth
    → Sees t (record { modules = v.modules; constants = v.constants; earlier = v.earlier ++ d ∷ [] })
one_defined s t v d title params depth m c a e h i n k = record {
  modules = subst (λ (x : Modules). AreModules x v.modules) (sym m) h.modules;
  constants = subst (λ (x : List Word). Binds x v.constants) (sym c) h.constants;
  arities = λ x.
      ap (λ (z : Numbers). number_of z x) a ∙ number_of_with s.arities title (params + 1) x
      ∙ (λ j. cond (bytes_eq (sym i j) x) (sym n j + 1) (h.arities x j))
      ∙ by_arity (bytes_eq d.title x) (length d.params) (arity v.earlier x)
      ∙ ap past_arity (sym (arity_more v.earlier d x));
  depths = λ x.
      ap (λ (z : Numbers). number_of z x) e ∙ number_of_with s.depths title (depth + 1) x
      ∙ (λ j. cond (bytes_eq (sym i j) x) (turned (sym k j) j) (h.depths x j))
      ∙ ap (λ (ds : Depths). depth_of_use ds x) (sym (depths_more [] v.earlier d));
}
  where
    by_arity : (b : Bool) (n : ℕ) (o : Option ℕ) → cond b (n + 1) (past_arity o) ≡ past_arity (cond b (Some n) o)
    by_arity true n o = refl
    by_arity false n o = refl

    turned : (n : ℕ) → n + 1 ≡ 1 + n
    turned n = omega arith

pub used_seen : (s : Sight) (v : pure.Sight) → Sees s v → (m : Form) → used_depth s.depths m ≡ used (depths [] v.earlier) m
used_seen s v h (name x) = h.depths x
used_seen s v h (operator_call f) = h.depths f
used_seen s v h m = refl

-- ---- fresh names

defined_seen : (o : Option ℕ) → nat_eq (past_arity o) 0 ≡ not (is_defined o)
defined_seen None = refl
defined_seen (Some n) = by (nat_eq (n + 1) 0) refl
  where
    by : (b : Bool) → nat_eq (n + 1) 0 ≡ b → b ≡ false
    by true e = absurd (let h = eqb-true (n + 1) 0 e in omega arith)
    by false e = refl

pub fresh_seen : (s : Sight) (v : pure.Sight) (hs bs : List Word) (x : Word) → Sees s v → Binds hs bs → fresh_in s hs x ≡ is_fresh v bs x
fresh_seen s v hs bs x h b =
    λ i. not (standard_given s.modules v.modules h.modules x i) && (not (h.constants x i) && ((ap (λ (n : ℕ). nat_eq n 0) (h.arities x) ∙ defined_seen (arity v.earlier x)) i && not (b x i)))

-- among names that are bound alike
alike_fresh : (v : pure.Sight) (bs cs xs : List Word) → ((x : Word) → is_among bs x ≡ is_among cs x) → are_fresh v bs xs ≡ are_fresh v cs xs
alike_fresh v bs cs [] h = refl
alike_fresh v bs cs (x ∷ xs) h =
    λ i. (not (is_standard v.modules x) && (not (is_among v.constants x) && (not (is_defined (arity v.earlier x)) && not (h x i)))) && alike_fresh v (x ∷ bs) (x ∷ cs) xs (λ y. ap (λ (b : Bool). bytes_eq x y || b) (h y)) i

pub fresh_append : (v : pure.Sight) (bs xs ys : List Word) → are_fresh v bs (xs ++ ys) ≡ (are_fresh v bs xs && are_fresh v (xs ++ bs) ys)
fresh_append v bs [] ys = refl
fresh_append v bs (x ∷ xs) ys =
    ap (λ (b : Bool). is_fresh v bs x && b) (fresh_append v (x ∷ bs) xs ys ∙ ap (λ (b : Bool). are_fresh v (x ∷ bs) xs && b) (alike_fresh v (xs ++ x ∷ bs) ((x ∷ xs) ++ bs) ys moved))
    ∙ together (is_fresh v bs x) (are_fresh v (x ∷ bs) xs) (are_fresh v ((x ∷ xs) ++ bs) ys)
  where
    together : (a b c : Bool) → (a && (b && c)) ≡ ((a && b) && c)
    together true b c = refl
    together false b c = refl

    or_moved : (a b c : Bool) → (a || (b || c)) ≡ (b || (a || c))
    or_moved true true c = refl
    or_moved true false c = refl
    or_moved false true c = refl
    or_moved false false c = refl

    moved : (y : Word) → is_among (xs ++ x ∷ bs) y ≡ is_among ((x ∷ xs) ++ bs) y
    moved y =
        list_any-append (λ (v : Word). bytes_eq v y) xs (x ∷ bs) ∙ or_moved (is_among xs y) (bytes_eq x y) (is_among bs y)
        ∙ ap (λ (b : Bool). bytes_eq x y || b) (sym (list_any-append (λ (v : Word). bytes_eq v y) xs bs))

-- ---- names in a row

pub fresh_then : (v : pure.Sight) (bs xs ys : List Word) (b : Bool) → are_fresh v bs xs ≡ true → are_fresh v (xs ++ bs) ys ≡ b → are_fresh v bs (xs ++ ys) ≡ b
fresh_then v bs xs ys b h k = fresh_append v bs xs ys ∙ (λ i. h i && k i)

pub stale_then : (v : pure.Sight) (bs xs ys zs : List Word) → are_fresh v bs xs ≡ true → are_fresh v (xs ++ bs) ys ≡ false → are_fresh v bs (xs ++ (ys ++ zs)) ≡ false
stale_then v bs xs ys zs h k = fresh_then v bs xs (ys ++ zs) false h (fresh_append v (xs ++ bs) ys zs ∙ ap (λ (b : Bool). b && are_fresh v (ys ++ (xs ++ bs)) zs) k)

names_next : (ns : List Name) (i : ℕ) (n : Name) → n ≡ get_or ns i n → i < length ns → words (take (i + 1) ns) ≡ words (take i ns) ++ n.word ∷ []
names_next ns i n e l =
    ap words (take_more ns i n l) ∙ map-append (λ (x : Name). x.word) (take i ns) (get_or ns i n ∷ []) ∙ ap (λ (x : Name). words (take i ns) ++ x.word ∷ []) (sym e)

parted : {A : Type 0} (i : ℕ) (xs : List A) → take i xs ++ drop i xs ≡ xs
parted zero xs = refl
parted (suc i) [] = refl
parted (suc i) (x ∷ xs) = ap (λ (l : List _). x ∷ l) (parted i xs)

names_around : (ns : List Name) (i : ℕ) (n : Name) → n ≡ get_or ns i n → i < length ns → words ns ≡ words (take i ns) ++ n.word ∷ words (drop (i + 1) ns)
names_around ns i n e l =
    ap words (sym (parted i ns)) ∙ map-append (λ (x : Name). x.word) (take i ns) (drop i ns)
    ∙ ap (λ (z : List Name). words (take i ns) ++ words z) (drop_more ns i n l ∙ ap (λ (z : Name). z ∷ drop (i + 1) ns) (sym e))

pub fresh_name : (v : pure.Sight) (bs : List Word) (ns : List Name) (i : ℕ) (n : Name) → n ≡ get_or ns i n → i < length ns
    → are_fresh v bs (words (take i ns)) ≡ true → is_fresh v (words (take i ns) ++ bs) n.word ≡ true → are_fresh v bs (words (take (i + 1) ns)) ≡ true
fresh_name v bs ns i n e l h k = ap (are_fresh v bs) (names_next ns i n e l) ∙ fresh_then v bs (words (take i ns)) (n.word ∷ []) true h (ap (λ (b : Bool). b && true) k)

pub stale_name : (v : pure.Sight) (bs : List Word) (ns : List Name) (i : ℕ) (n : Name) → n ≡ get_or ns i n → i < length ns
    → are_fresh v bs (words (take i ns)) ≡ true → is_fresh v (words (take i ns) ++ bs) n.word ≡ false → are_fresh v bs (words ns) ≡ false
stale_name v bs ns i n e l h k = ap (are_fresh v bs) (names_around ns i n e l) ∙ stale_then v bs (words (take i ns)) (n.word ∷ []) (words (drop (i + 1) ns)) h (ap (λ (b : Bool). b && true) k)

-- ---- groups in a row

abbrev in_groups : List (Vec Name Global) → List Word
in_groups gs = flat_map words (groups_of gs)

groups_append : (gs hs : List (Vec Name Global)) → in_groups (gs ++ hs) ≡ in_groups gs ++ in_groups hs
groups_append gs hs = ap (flat_map words) (map-append (λ (g : Vec Name Global). g.items) gs hs) ∙ flat_map-append words (groups_of gs) (groups_of hs)

groups_next : (gs : List (Vec Name Global)) (i : ℕ) (g : Vec Name Global) → g ≡ get_or gs i g → i < length gs → in_groups (take (i + 1) gs) ≡ in_groups (take i gs) ++ words g.items
groups_next gs i g e l =
    ap in_groups (take_more gs i g l ∙ ap (λ (x : Vec Name Global). take i gs ++ x ∷ []) (sym e)) ∙ groups_append (take i gs) (g ∷ []) ∙ ap (λ (z : List Word). in_groups (take i gs) ++ z) (append-nil (words g.items))

groups_around : (gs : List (Vec Name Global)) (i : ℕ) (g : Vec Name Global) → g ≡ get_or gs i g → i < length gs → in_groups gs ≡ in_groups (take i gs) ++ (words g.items ++ in_groups (drop (i + 1) gs))
groups_around gs i g e l =
    ap in_groups (sym (parted i gs)) ∙ groups_append (take i gs) (drop i gs)
    ∙ ap (λ (z : List (Vec Name Global)). in_groups (take i gs) ++ in_groups z) (drop_more gs i g l ∙ ap (λ (x : Vec Name Global). x ∷ drop (i + 1) gs) (sym e))

pub fresh_group : (v : pure.Sight) (bs : List Word) (gs : List (Vec Name Global)) (i : ℕ) (g : Vec Name Global) → g ≡ get_or gs i g → i < length gs
    → are_fresh v bs (in_groups (take i gs)) ≡ true → are_fresh v (in_groups (take i gs) ++ bs) (words g.items) ≡ true → are_fresh v bs (in_groups (take (i + 1) gs)) ≡ true
fresh_group v bs gs i g e l h k = ap (are_fresh v bs) (groups_next gs i g e l) ∙ fresh_then v bs (in_groups (take i gs)) (words g.items) true h k

pub stale_group : (v : pure.Sight) (bs : List Word) (gs : List (Vec Name Global)) (i : ℕ) (g : Vec Name Global) → g ≡ get_or gs i g → i < length gs
    → are_fresh v bs (in_groups (take i gs)) ≡ true → are_fresh v (in_groups (take i gs) ++ bs) (words g.items) ≡ false → are_fresh v bs (in_groups gs) ≡ false
stale_group v bs gs i g e l h k = ap (are_fresh v bs) (groups_around gs i g e l) ∙ stale_then v bs (in_groups (take i gs)) (words g.items) (in_groups (drop (i + 1) gs)) h k

-- the names that were bound first are those that were bound
pub kept_then : (old now new xs : List Word) → Hides old now xs → take (length now) new ≡ now → take (length old) new ≡ old
kept_then old now new xs h k =
    let rest = drop (length now) new in
    ap (take (length old)) (sym (parted (length now) new) ∙ ap (λ (l : List Word). l ++ rest) (k ∙ h.behind) ∙ append_assoc old h.more rest) ∙ take-append_seam old (h.more ++ rest)
