-- Arguments put in: what is left still gives the whole, and what was assigned.
use Rattle.std.proofs.Common.{◌≡◌, ℕ, ◌+◌, ◌<◌, ◌≤◌, Bool, true, false, ◌&&◌, ◌||◌, List, [], ◌∷◌, ◌++◌, length, take, drop, get_or, map, cond, refl, sym, ap, ◌∙◌, append-nil, append_assoc, bytes_eq, Option, Some, None}
use Rattle.std.specs.List.{list_any, flat_map}
use Rattle.std.proofs.lemmas.List.{drop_more, drop_all, take_more, take_all}
use Rattle.std.proofs.lemmas.List.Folds.{list_any-append}
use Rattle.std.proofs.lemmas.Grind.{flat_map-append}
use Rattle.tla_token.specs.declared.place.Place.{Place}
use Rattle.tla_tree.specs.Tree.{Word, Form, name, operator_call, Tree, node, Trees, no_trees}
use Rattle.tla_tree.specs.Pool.{at, trees_at}
use Rattle.pcal_tree.specs.Algorithm.{Name}
use Rattle.pcal_tree.specs.Expand.{placed_at}
use Rattle.pcal_tree.specs.laws.MacroSpots as spots
use Rattle.pcal_tree.specs.laws.MacroSpots.{Origin, earlier, assigned, Trail, before_on, Put, put_origin, put_use}
use Rattle.pcal_tree.specs.laws.MacroSummaries.{argument}
use Rattle.pcal_tree.proofs.SetLaws.{Same, any_flat, any_map, any_same, or_both}
use Rattle.pcal_tree.proofs.SpotGrafts.{putting}
use Rattle.read_rules.specs.declared.assigned.Assigned.{Assigned}
use Rattle.read_rules.specs.declared.uses.Use.{Use}
use Rattle.read_rules.specs.Joins.{Joins}
use Rattle.read_rules.specs.PutIn.{word_put, words_put, before_if}
use Rattle.read_rules.specs.Sets.{origins}
use Rattle.read_rules.specs.declared.uses.Kind.{Kind}
use Rattle.read_rules.specs.declared.uses.Kind.TheVariants as kind
use Rattle.read_rules.specs.UsesIn.{of_kind, use_of, uses_of, form_uses, uses_as}
use Rattle.read_rules.proofs.SetLaws.{joins_then, origins_any}

-- ---- uses

pub uses_then : (P : Put) (old new : List spots.Use) (us : List Use) (i : ℕ) (u : Use) → u ≡ get_or us i u → i < length us → new ≡ old ++ put_use P (use_of u)
    → new ++ flat_map (put_use P) (uses_of (drop (i + 1) us)) ≡ old ++ flat_map (put_use P) (uses_of (drop i us))
uses_then P old new us i u is less h =
    let rest = flat_map (put_use P) (uses_of (drop (i + 1) us)) in
    ap (λ (vs : List spots.Use). vs ++ rest) h ∙ append_assoc old (put_use P (use_of u)) rest
    ∙ ap (λ (vs : List Use). old ++ flat_map (put_use P) (uses_of vs)) (ap (λ (z : Use). z ∷ drop (i + 1) us) is ∙ sym (drop_more us i u less))

pub uses_over : (P : Put) (new : List spots.Use) (us : List Use) (i : ℕ) → length us ≤ i → new ≡ new ++ flat_map (put_use P) (uses_of (drop i us))
uses_over P new us i less = sym (ap (λ (vs : List Use). new ++ flat_map (put_use P) (uses_of vs)) (drop_all i us less) ∙ append-nil new)

-- ---- one use

-- by what stands for its name
pub kept_use : (ps : List Name) (ts : Trees) (u : Use) → argument ps ts u.name.word ≡ None → put_use (putting ps ts []) (use_of u) ≡ use_of u ∷ []
kept_use ps ts u e = by u.kind
  where
    by : (k : Kind) → put_use (putting ps ts []) (of_kind k u.name) ≡ of_kind k u.name ∷ []
    by kind.Value = ap (λ (o : Option Tree). spots.value_uses o u.name) e
    by kind.Left = ap (λ (o : Option Tree). spots.left_value_uses o u.name) e
    by kind.Other = refl

pub value_use : (ps : List Name) (ts : Trees) (u : Use) (t : Tree) → u.kind ≡ kind.Value → argument ps ts u.name.word ≡ Some t → put_use (putting ps ts []) (use_of u) ≡ spots.uses t
value_use ps ts u t k e = ap (λ (k : Kind). put_use (putting ps ts []) (of_kind k u.name)) k ∙ ap (λ (o : Option Tree). spots.value_uses o u.name) e

form_left : (m : Form) (at : Place) (us : List spots.Use) → spots.left_form m at us ≡ form_uses kind.Left m at us
form_left (name x) at us = refl
form_left (operator_call f) at us = refl
form_left m at us = refl

left_placed : (at : Place) (t : Tree) → spots.left_uses (placed_at at t) ≡ uses_as kind.Left at t
left_placed at (node m p ts) = form_left m at (spots.uses_of_all ts)

pub left_use : (ps : List Name) (ts : Trees) (u : Use) (t : Tree) → u.kind ≡ kind.Left → argument ps ts u.name.word ≡ Some t → put_use (putting ps ts []) (use_of u) ≡ uses_as kind.Left u.name.place t
left_use ps ts u t k e =
    ap (λ (k : Kind). put_use (putting ps ts []) (of_kind k u.name)) k ∙ ap (λ (o : Option Tree). spots.left_value_uses o u.name) e ∙ left_placed u.name.place t

pub other_use : (ps : List Name) (ts : Trees) (u : Use) → u.kind ≡ kind.Other → put_use (putting ps ts []) (use_of u) ≡ spots.other u.name ∷ []
other_use ps ts u k = ap (λ (k : Kind). put_use (putting ps ts []) (of_kind k u.name)) k

-- ---- arguments

no_arguments : (ps : List Name) (x : Word) → argument ps no_trees x ≡ None
no_arguments [] x = refl
no_arguments (p ∷ ps) x = refl

pub argument_none : (ts : List Tree) (ps : List Name) (es : List ℕ) (x : Word) (i : ℕ) → length es ≤ i → None ≡ argument (drop i ps) (trees_at ts (drop i es)) x
argument_none ts ps es x i less = sym (ap (λ (js : List ℕ). argument (drop i ps) (trees_at ts js) x) (drop_all i es less) ∙ no_arguments (drop i ps) x)

pub argument_first : (ts : List Tree) (ps : List Name) (es : List ℕ) (x : Word) (i : ℕ) (p : Name) (e : ℕ) → p ≡ get_or ps i p → e ≡ get_or es i e → i < length ps → i < length es
    → argument (drop i ps) (trees_at ts (drop i es)) x ≡ cond (bytes_eq p.word x) (Some (at ts e)) (argument (drop (i + 1) ps) (trees_at ts (drop (i + 1) es)) x)
argument_first ts ps es x i p e ip ie lp le = λ j.
    argument ((drop_more ps i p lp ∙ ap (λ (z : Name). z ∷ drop (i + 1) ps) (sym ip)) j) (trees_at ts ((drop_more es i e le ∙ ap (λ (z : ℕ). z ∷ drop (i + 1) es) (sym ie)) j)) x

pub argument_passed : (ts : List Tree) (ps : List Name) (es : List ℕ) (x : Word) (i : ℕ) (p : Name) (e : ℕ) → p ≡ get_or ps i p → e ≡ get_or es i e → i < length ps → i < length es
    → bytes_eq p.word x ≡ false → argument (drop (i + 1) ps) (trees_at ts (drop (i + 1) es)) x ≡ argument (drop i ps) (trees_at ts (drop i es)) x
argument_passed ts ps es x i p e ip ie lp le h =
    sym (argument_first ts ps es x i p e ip ie lp le ∙ ap (λ (b : Bool). cond b (Some (at ts e)) (argument (drop (i + 1) ps) (trees_at ts (drop (i + 1) es)) x)) h)

-- ---- names that were assigned

pub words_more : (ps : List Name) (ts : Trees) (old now new xs : List Word) (i : ℕ) (x : Word) → x ≡ get_or xs i x → i < length xs
    → Joins old now (words_put ps ts (take i xs)) → Joins now new (word_put ps ts x) → Joins old new (words_put ps ts (take (i + 1) xs))
words_more ps ts old now new xs i x e l h k f =
    joins_then old now new (words_put ps ts (take i xs)) (word_put ps ts x) h k f
    ∙ ap (λ (ys : List Word). list_any f old || list_any f ys)
    (sym (ap (words_put ps ts) (take_more xs i x l ∙ ap (λ (z : Word). take i xs ++ z ∷ []) (sym e))
    ∙ flat_map-append (word_put ps ts) (take i xs) (x ∷ []) ∙ ap (λ (ys : List Word). words_put ps ts (take i xs) ++ ys) (append-nil (word_put ps ts x))))

pub words_all : (ps : List Name) (ts : Trees) (old new xs : List Word) (i : ℕ) → length xs ≤ i → Joins old new (words_put ps ts (take i xs)) → Joins old new (words_put ps ts xs)
words_all ps ts old new xs i l h f = h f ∙ ap (λ (ys : List Word). list_any f old || list_any f (words_put ps ts ys)) (take_all i xs l)

-- ---- what was assigned

names_put : (f : Origin → Bool) (ps : List Name) (ts : Trees) (os : List Origin) (xs : List Word)
    → list_any f (flat_map (put_origin (putting ps ts os)) (map assigned xs)) ≡ list_any (λ x. f (assigned x)) (words_put ps ts xs)
names_put f ps ts os xs =
    any_flat f (put_origin (putting ps ts os)) (map assigned xs)
    ∙ any_map (λ o. list_any f (put_origin (putting ps ts os) o)) assigned xs
    ∙ any_same (λ x. list_any f (map assigned (word_put ps ts x))) (λ x. list_any (λ y. f (assigned y)) (word_put ps ts x)) (λ x. any_map f assigned (word_put ps ts x)) xs
    ∙ sym (any_flat (λ y. f (assigned y)) (word_put ps ts) xs)

before_put : (f : Origin → Bool) (ps : List Name) (ts : Trees) (q : Trail) (b : Bool)
    → list_any f (before_if b q) ≡ list_any f (flat_map (put_origin (putting ps ts (before_on q))) (cond b (earlier ∷ []) []))
before_put f ps ts q true = ap (list_any f) (sym (append-nil (before_on q)))
before_put f ps ts q false = refl

pub assigned_put : (ps : List Name) (ts : Trees) (q : Trail) (b c from : Assigned) → Same (origins b) (before_if from.earlier q)
    → Joins b.names c.names (words_put ps ts from.names) → c.earlier ≡ b.earlier → Same (origins c) (flat_map (put_origin (putting ps ts (before_on q))) (origins from))
assigned_put ps ts q b c from j k g f =
    let P = put_origin (putting ps ts (before_on q)) in
    let more = list_any (λ x. f (assigned x)) (words_put ps ts from.names) in
    origins_any f c ∙ (λ i. (g i && f earlier) || k (λ x. f (assigned x)) i)
    ∙ sym (or_both (b.earlier && f earlier) (list_any (λ x. f (assigned x)) b.names) more)
    ∙ ap (λ (t : Bool). t || more) (sym (origins_any f b) ∙ j f)
    ∙ (λ i. before_put f ps ts q from.earlier i || sym (names_put f ps ts (before_on q) from.names) i)
    ∙ sym (ap (list_any f) (flat_map-append P (cond from.earlier (earlier ∷ []) []) (map assigned from.names)) ∙ list_any-append f (flat_map P (cond from.earlier (earlier ∷ []) [])) (flat_map P (map assigned from.names)))
