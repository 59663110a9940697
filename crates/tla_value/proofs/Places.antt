-- Places matter to a value but for where a trouble is.
use Rattle.std.proofs.Common.{◌≡◌, Bool, true, false, if◌then◌else◌, List, [], ◌∷◌, map, Option, Some, None, refl, sym, ◌∙◌, ap, subst, Ok, Err}
use Rattle.tla_token.specs.declared.place.Place.{Place}
use Rattle.tla_token.specs.Places.{nowhere}
use Rattle.tla_tree.specs.Tree.{Word, Name, words, Slot, Strict, except, Form, strict, binding, local, Tree, node, Trees, no_trees, tree, seen_names, Graft}
use Rattle.tla_tree.specs.laws.Placeless.{names_placeless, slot_placeless, strict_placeless, form_placeless, tree_placeless, trees_placeless}
use Rattle.tla_value.specs.Value.{Value, Outcome, Trouble, fault, over, Sense}
use Rattle.tla_value.specs.Limits.{fits, bounded}
use Rattle.tla_value.specs.Stops.{Check, plain}
use Rattle.tla_value.specs.Meaning.{Env, bind, eval, evals}
use Rattle.tla_value.specs.Definitions.{Valuation, Definition, trouble_at, scope_of}
use Rattle.tla_value.specs.Grafts.{read_tree, through}
use Rattle.tla_value.specs.laws.Places.{SameKind, AgreeButPlaces, SensesButPlaces, EnvsButPlaces, ChecksButPlaces, TreesButPlaces, DefinitionsButPlaces, OptionsButPlaces, GraftsButPlaces}
use Rattle.tla_value.proofs.Joined.{Kin, Same, Both, none, one, SlotsJoin, FormsJoin, form, slots, Checks}
use Rattle.tla_value.proofs.JoinedEval.{Senses, Dens, Forms, same, stricts, bindings, locals, kept_parts, each_seen, forms_both}
use Rattle.tla_value.proofs.JoinedScopes.{Envs, bound_both, form_in, UsesJoin, DefinitionsJoin, scopes_both}

abbrev AnyPlace : Place → Place → Type 0
AnyPlace p q = Unit {0}

moved_kind : (p q : Place) → AnyPlace p q → (k j : Trouble) → SameKind k j → SameKind (trouble_at p k) (trouble_at q j)
moved_kind p q at (fault k r) (fault j s) h = h
moved_kind p q at (fault k r) (over s) h = h
moved_kind p q at (over r) (fault j s) h = h
moved_kind p q at (over r) (over s) h = h

-- troubles of one kind stand for one another, and all places
abbrev placeless : Kin
placeless = record {
  beside = SameKind;
  free = λ k. ⊥;
  place = AnyPlace;
  self = λ p. tt;
  anything = λ k j h. absurd h;
  faults = λ k p q e. refl;
  moved = moved_kind;
  free_moved = λ p k h. h;
}

agree_is : {X : Type 0} (o o' : Outcome X) → Same placeless o o' → AgreeButPlaces o o'
agree_is (Ok x) (Ok y) h = h
agree_is (Ok x) (Err j) h = h
agree_is (Err k) (Ok y) h = h
agree_is (Err k) (Err j) h = h

agree_of : {X : Type 0} (o o' : Outcome X) → AgreeButPlaces o o' → Same placeless o o'
agree_of (Ok x) (Ok y) h = h
agree_of (Ok x) (Err j) h = h
agree_of (Err k) (Ok y) h = h
agree_of (Err k) (Err j) h = h

-- ---- the relation is symmetric and transitive

kind_back : (k j : Trouble) → SameKind k j → SameKind j k
kind_back (fault k p) (fault j q) h = sym h
kind_back (fault k p) (over q) h = h
kind_back (over p) (fault j q) h = h
kind_back (over p) (over q) h = h

kind_on : (k j i : Trouble) → SameKind k j → SameKind j i → SameKind k i
kind_on (fault k p) (fault j q) (fault i r) h g = h ∙ g
kind_on (fault k p) (fault j q) (over r) h g = g
kind_on (fault k p) (over q) i h g = absurd h
kind_on (over p) (fault j q) i h g = absurd h
kind_on (over p) (over q) (fault i r) h g = g
kind_on (over p) (over q) (over r) h g = h

agree_back : {X : Type 0} (o o' : Outcome X) → AgreeButPlaces o o' → AgreeButPlaces o' o
agree_back (Ok x) (Ok y) h = sym h
agree_back (Ok x) (Err j) h = h
agree_back (Err k) (Ok y) h = h
agree_back (Err k) (Err j) h = kind_back k j h

agree_on : {X : Type 0} (o o' o'' : Outcome X) → AgreeButPlaces o o' → AgreeButPlaces o' o'' → AgreeButPlaces o o''
agree_on (Ok x) (Ok y) (Ok z) h g = h ∙ g
agree_on (Ok x) (Ok y) (Err i) h g = g
agree_on (Ok x) (Err j) o h g = absurd h
agree_on (Err k) (Ok y) o h g = absurd h
agree_on (Err k) (Err j) (Ok z) h g = g
agree_on (Err k) (Err j) (Err i) h g = kind_on k j i h g

sense_back : (s t : Sense) → SensesButPlaces s t → SensesButPlaces t s
sense_back s t h = record { value = agree_back _ _ h.value; test = λ p q v. agree_back _ _ (h.test q p v) }

sense_on : (s t u : Sense) → SensesButPlaces s t → SensesButPlaces t u → SensesButPlaces s u
sense_on s t u h g = record { value = agree_on _ _ _ h.value g.value; test = λ p q v. agree_on _ _ _ (h.test p q v) (g.test q q v) }

-- what stands for another stands for itself
itself : (e f : Env) → EnvsButPlaces e f → EnvsButPlaces f f
itself e f h = record {
  now = λ x p q. sense_on _ _ _ (sense_back _ _ (h.now x q p)) (h.now x q q);
  primed = λ x p q. sense_on _ _ _ (sense_back _ _ (h.primed x q p)) (h.primed x q q);
  defs = λ x p q vs. sense_on _ _ _ (sense_back _ _ (h.defs x q p vs)) (h.defs x q q vs);
}

-- ---- to and fro

senses_is : (s t : Sense) → Senses placeless s t → SensesButPlaces s t
senses_is s t h = record { value = agree_is _ _ h.value; test = λ p q v. agree_is _ _ (h.test p q tt v) }

senses_of : (s t : Sense) → SensesButPlaces s t → Senses placeless s t
senses_of s t h = record { value = agree_of _ _ h.value; test = λ p q at v. agree_of _ _ (h.test p q v) }

envs_is : (e f : Env) → Envs placeless e f → EnvsButPlaces e f
envs_is e f h = record {
  now = λ x p q. senses_is _ _ (h.now x p q tt);
  primed = λ x p q. senses_is _ _ (h.primed x p q tt);
  defs = λ x p q vs. senses_is _ _ (h.defs x p q tt vs);
}

envs_of : (e f : Env) → EnvsButPlaces e f → Envs placeless e f
envs_of e f h = record {
  now = λ x p q at. senses_of _ _ (h.now x p q);
  primed = λ x p q at. senses_of _ _ (h.primed x p q);
  defs = λ x p q at vs. senses_of _ _ (h.defs x p q vs);
}

checks_of : (c c' : Check) → ChecksButPlaces c c' → Checks placeless c c'
checks_of c c' h p q at v = agree_of _ _ (h p q v)

-- ---- a tree and the tree without places

words_same : (xs : List Name) → words xs ≡ words (names_placeless xs)
words_same [] = refl
words_same (x ∷ xs) = ap (λ ws. x.word ∷ ws) (words_same xs)

groups_same : (groups : List (List Name)) → map words groups ≡ map words (map names_placeless groups)
groups_same [] = refl
groups_same (xs ∷ groups) = λ i. words_same xs i ∷ groups_same groups i

slots_same : (ns : List Slot) → Both (SlotsJoin placeless) ns (map slot_placeless ns)
slots_same [] = none
slots_same (n ∷ ns) = one (record { path = refl; place = tt }) (slots_same ns)

strict_same : (o : Strict) → FormsJoin placeless o (strict_placeless o)
strict_same (except ns) = slots (slots_same ns)
strict_same o = form o

form_same : (m : Form) → Forms placeless m (form_placeless m)
form_same (strict o) = stricts (strict_same o)
form_same (binding b groups) = bindings b groups (map names_placeless groups) (groups_same groups)
form_same (local xs) = locals xs (names_placeless xs) (words_same xs)
form_same m = same m

mutual
  bare : (c c' : Check) → Checks placeless c c' → (t : Tree) → Dens placeless (Envs placeless) (eval c t) (eval c' (tree_placeless t))
  bare c c' l (node m at ts) =
      forms_both placeless (Envs placeless) c c' l at nowhere tt m (form_placeless m) (form_same m) _ _ (form_in placeless m at).1
      (kept_parts placeless (Envs placeless) (seen_names m) _ _ (each_seen _ m (form_in placeless m at).0) (all_bare c c' l ts))

  all_bare : (c c' : Check) → Checks placeless c c' → (ts : Trees) → Both (Dens placeless (Envs placeless)) (evals c ts) (evals c' (trees_placeless ts))
  all_bare c c' l no_trees = none
  all_bare c c' l (tree t ts) = one (bare c c' l t) (all_bare c c' l ts)

pub eval_places : (c c' : Check) → ChecksButPlaces c c' → (t u : Tree) → TreesButPlaces t u → (e f : Env) → EnvsButPlaces e f → SensesButPlaces (eval c t e) (eval c' u f)
eval_places c c' l t u same_trees e f r =
    let left : SensesButPlaces (eval c t e) (eval c' (tree_placeless t) f) = senses_is _ _ (bare c c' (checks_of c c' l) t e f (envs_of e f r)) in
    let own : ChecksButPlaces c' c' = λ p q v. agree_on _ _ _ (agree_back _ _ (l q p v)) (l q q v) in
    let right : SensesButPlaces (eval c' u f) (eval c' (tree_placeless u) f) = senses_is _ _ (bare c' c' (checks_of c' c' own) u f f (envs_of f f (itself e f r))) in
    sense_on _ _ _ left (subst (λ z. SensesButPlaces (eval c' z f) (eval c' u f)) (sym same_trees) (sense_back _ _ right))

-- ---- environments

let_through : (p q : Place) (v : Value) (b : Bool) → AgreeButPlaces (if b then Ok v else Err (over p)) (if b then Ok v else Err (over q))
let_through p q v true = refl
let_through p q v false = tt

pub plain_places : ChecksButPlaces plain plain
plain_places p q v = refl

pub bounded_places : ChecksButPlaces bounded bounded
bounded_places p q v = let_through p q v (fits v)

pub bind_places : (x : Word) (v : Value) (e f : Env) → EnvsButPlaces e f → EnvsButPlaces (bind x v e) (bind x v f)
bind_places x v e f r = envs_is _ _ (bound_both placeless x e f v (envs_of e f r))

read_places : (c c' : Check) → ChecksButPlaces c c' → (o o' : Option Tree) → OptionsButPlaces o o' → (x : Word) (p q : Place) (e f : Env) → EnvsButPlaces e f → SensesButPlaces (read_tree c o x p e) (read_tree c' o' x q f)
read_places c c' l (Some t) (Some u) h x p q e f r = eval_places c c' l t u h e f r
read_places c c' l (Some t) None h x p q e f r = absurd h
read_places c c' l None (Some u) h x p q e f r = absurd h
read_places c c' l None None h x p q e f r = r.now x p q

pub through_places : (c c' : Check) → ChecksButPlaces c c' → (g h : Graft) → GraftsButPlaces g h → (e f : Env) → EnvsButPlaces e f → EnvsButPlaces (through c g e) (through c' h f)
through_places c c' l g h k e f r = record {
  now = λ x p q. read_places c c' l (g x p) (h x q) (k x p q) x p q e f r;
  primed = r.primed;
  defs = r.defs;
}

any_use : (b b' : Bool) → UsesJoin placeless b b'
any_use true true p q at k j h = moved_kind p q tt k j h
any_use false false p q at k j h = h
any_use true false p q at (fault k r) (fault j s) h = h
any_use true false p q at (fault k r) (over s) h = h
any_use true false p q at (over r) (fault j s) h = h
any_use true false p q at (over r) (over s) h = h
any_use false true p q at (fault k r) (fault j s) h = h
any_use false true p q at (fault k r) (over s) h = h
any_use false true p q at (over r) (fault j s) h = h
any_use false true p q at (over r) (over s) h = h

body_places : (c c' : Check) → ChecksButPlaces c c' → (t u : Tree) → TreesButPlaces t u → Dens placeless (Envs placeless) (eval c t) (eval c' u)
body_places c c' l t u h e f r = senses_of _ _ (eval_places c c' l t u h e f (envs_is e f r))

definitions_places : (c c' : Check) (l : ChecksButPlaces c c') (ds es : List Definition) → DefinitionsButPlaces ds es → Both (DefinitionsJoin placeless c c' (checks_of c c' l)) ds es
definitions_places c c' l [] [] h = none
definitions_places c c' l [] (e ∷ es) h = absurd h
definitions_places c c' l (d ∷ ds) [] h = absurd h
definitions_places c c' l (d ∷ ds) (e ∷ es) h =
    one (record { title = h.0.title; params = h.0.params; body = body_places c c' l d.body e.body h.0.body; use_as = any_use d.outside e.outside }) (definitions_places c c' l ds es h.1)

pub scope_places : (c c' : Check) → ChecksButPlaces c c' → (k : Valuation) (ds es : List Definition) → DefinitionsButPlaces ds es → (s t : Valuation) → EnvsButPlaces (scope_of c k ds s t) (scope_of c' k es s t)
scope_places c c' l k ds es h s t = envs_is _ _ (scopes_both placeless c c' (checks_of c c' l) k ds es (definitions_places c c' l ds es h) s t)
