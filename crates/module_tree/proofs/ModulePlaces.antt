-- Places don't matter to the truth of a module's Next and Init but for where a trouble is. Each module is compared with itself without its places.
use Rattle.std.proofs.Common.{◌≡◌, List, [], ◌∷◌, ◌++◌, Bool, true, false, cond, bytes_eq, Option, Some, None, map, refl, sym, ◌∙◌, ap, subst, Ok, Err}
use Rattle.tla_tree.specs.Tree.{Word, Name, Slot, Strict, except, Form, strict, binding, local as local_form, Tree, node, Trees, no_trees, tree, root_place}
use Rattle.tla_tree.specs.laws.Placeless.{name_placeless, names_placeless, slot_placeless, strict_placeless, form_placeless, tree_placeless, trees_placeless}
use Rattle.tla_value.specs.Value.{Value, Outcome, Trouble, fault, over, ◌>>=◌}
use Rattle.tla_value.specs.Stops.{plain}
use Rattle.tla_value.specs.Meaning.{Env, bind, eval}
use Rattle.tla_value.specs.Definitions.{Valuation, Definition, no_state}
use Rattle.tla_value.specs.laws.Places.{SameKind, AgreeButPlaces, EnvsButPlaces, TreesButPlaces, DefinitionsButPlaces}
use Rattle.tla_value.proofs.Places.{eval_places, plain_places, bind_places, scope_places}
use Rattle.module_tree.specs.Module.{Item, test, setting, unchanged, exists, local, if_then_else, either, Items, no_items, item, Branches, no_branches, branch, Call, call, call_with, Way, one_way, some_way, Body, all_of, some_of, Action, Module}
use Rattle.module_tree.specs.laws.PlacelessRegion.{item_placeless, items_placeless, branches_placeless, call_placeless, way_placeless, body_placeless, action_placeless, perhaps_placeless, definition_placeless, region_placeless}
use Rattle.module_tree.specs.laws.Outsides.{SameOutside}
use Rattle.module_tree.specs.ActionTruth.{Verdict, truth_in, members_in, Acts, acted, call_holds, way_holds, some_way_holds, body_holds, with_argument, action_of, acts_of, no_acts}
use Rattle.module_tree.specs.ModuleTruth.{process_set_defined, definitions_in, scope, terminating, acts_in, next_holds, all_hold, init_holds}
use Rattle.module_tree.specs.laws.ItemPlaces.{ItemButPlaces, ItemsButPlaces, BranchesButPlaces}
use Rattle.module_tree.proofs.OutcomesAlike.{then_same, and_same, or_same, each_same, truth_same, members_same}
use Rattle.module_tree.proofs.ItemPlaces.{items_agree}
use Rattle.tla_value.specs.Outside.{found}
use Rattle.tla_token.specs.Places.{nowhere}

-- ---- once is enough

names_twice : (xs : List Name) → names_placeless (names_placeless xs) ≡ names_placeless xs
names_twice [] = refl
names_twice (x ∷ xs) = ap (λ ys. name_placeless x ∷ ys) (names_twice xs)

groups_twice : (gs : List (List Name)) → map names_placeless (map names_placeless gs) ≡ map names_placeless gs
groups_twice [] = refl
groups_twice (g ∷ gs) = λ i. names_twice g i ∷ groups_twice gs i

slots_twice : (ns : List Slot) → map slot_placeless (map slot_placeless ns) ≡ map slot_placeless ns
slots_twice [] = refl
slots_twice (n ∷ ns) = ap (λ ms. slot_placeless n ∷ ms) (slots_twice ns)

strict_twice : (o : Strict) → strict_placeless (strict_placeless o) ≡ strict_placeless o
strict_twice (except ns) = ap except (slots_twice ns)
strict_twice o = refl

form_twice : (m : Form) → form_placeless (form_placeless m) ≡ form_placeless m
form_twice (strict o) = ap strict (strict_twice o)
form_twice (binding b gs) = ap (binding b) (groups_twice gs)
form_twice (local_form xs) = ap local_form (names_twice xs)
form_twice m = refl

mutual
  pub tree_twice : (t : Tree) → tree_placeless (tree_placeless t) ≡ tree_placeless t
  tree_twice (node m at ts) = λ i. node (form_twice m i) nowhere (trees_twice ts i)

  trees_twice : (ts : Trees) → trees_placeless (trees_placeless ts) ≡ trees_placeless ts
  trees_twice no_trees = refl
  trees_twice (tree t ts) = λ i. tree (tree_twice t i) (trees_twice ts i)

bare : (t : Tree) → TreesButPlaces t (tree_placeless t)
bare t = sym (tree_twice t)

mutual
  item_bare : (i : Item) → ItemButPlaces i (item_placeless i)
  item_bare (test e) = bare e
  item_bare (setting x e) = (refl, bare e)
  item_bare (unchanged xs) = refl
  item_bare (exists x e is) = (refl, bare e, items_bare is)
  item_bare (local x e is) = (refl, bare e, items_bare is)
  item_bare (if_then_else p a b) = (bare p, items_bare a, items_bare b)
  item_bare (either bs) = branches_bare bs

  items_bare : (is : Items) → ItemsButPlaces is (items_placeless is)
  items_bare no_items = tt
  items_bare (item i is) = (item_bare i, items_bare is)

  branches_bare : (bs : Branches) → BranchesButPlaces bs (branches_placeless bs)
  branches_bare no_branches = tt
  branches_bare (branch is bs) = (items_bare is, branches_bare bs)

-- ---- actions by their names

abbrev SameActs : Option (Option Value → Verdict) → Option (Option Value → Verdict) → Type 0
SameActs None None = Unit {0}
SameActs (Some f) (Some g) = (v : Option Value) → AgreeButPlaces (f v) (g v)
SameActs _ _ = ⊥

abbrev ActsAlike : Acts → Acts → Type 0
ActsAlike acts others = (x : Word) → SameActs (acts x) (others x)

acted_same : (o p : Option (Option Value → Verdict)) → SameActs o p → (v : Option Value) → AgreeButPlaces (acted o v) (acted p v)
acted_same None None h v = refl
acted_same (Some f) (Some g) h v = h v
acted_same None (Some g) h v = absurd h
acted_same (Some f) None h v = absurd h

value_same : {X : Type 0} (t : Tree) (e f : Env) → EnvsButPlaces e f → (g h : Value → Outcome X) → ((v : Value) → AgreeButPlaces (g v) (h v)) → AgreeButPlaces ((eval plain t e).value >>= g) ((eval plain (tree_placeless t) f).value >>= h)
value_same t e f r g h q = then_same _ _ g h (eval_places plain plain plain_places t (tree_placeless t) (bare t) e f r).value q

truth_alike : (t : Tree) (e f : Env) → EnvsButPlaces e f → AgreeButPlaces (truth_in plain e t) (truth_in plain f (tree_placeless t))
truth_alike t e f r = value_same t e f r _ _ (truth_same (root_place t) (root_place (tree_placeless t)))

members_alike : (t : Tree) (e f : Env) → EnvsButPlaces e f → AgreeButPlaces (members_in plain e t) (members_in plain f (tree_placeless t))
members_alike t e f r = value_same t e f r _ _ (members_same (root_place t) (root_place (tree_placeless t)))

call_alike : (e f : Env) → EnvsButPlaces e f → (acts others : Acts) → ActsAlike acts others → (u : Call) → AgreeButPlaces (call_holds plain e acts u) (call_holds plain f others (call_placeless u))
call_alike e f r acts others h (call a) = acted_same (acts a) (others a) (h a) None
call_alike e f r acts others h (call_with a t) = value_same t e f r _ _ (λ v. acted_same (acts a) (others a) (h a) (Some v))

way_alike : (e f : Env) → EnvsButPlaces e f → (acts others : Acts) → ActsAlike acts others → (y : Way) → AgreeButPlaces (way_holds plain e acts y) (way_holds plain f others (way_placeless y))
way_alike e f r acts others h (one_way u) = call_alike e f r acts others h u
way_alike e f r acts others h (some_way x s u) =
    then_same (members_in plain e s) (members_in plain f (tree_placeless s)) _ _ (members_alike s e f r)
    (λ vs. each_same vs _ _ (λ v. call_alike (bind x v e) (bind x v f) (bind_places x v e f r) acts others h u))

ways_alike : (e f : Env) → EnvsButPlaces e f → (acts others : Acts) → ActsAlike acts others → (ys : List Way) → AgreeButPlaces (some_way_holds plain e acts ys) (some_way_holds plain f others (map way_placeless ys))
ways_alike e f r acts others h [] = refl
ways_alike e f r acts others h (y ∷ ys) = or_same _ _ _ _ (way_alike e f r acts others h y) (ways_alike e f r acts others h ys)

body_alike : (s t : Valuation) (e f : Env) → EnvsButPlaces e f → (acts others : Acts) → ActsAlike acts others → (b : Body) → AgreeButPlaces (body_holds plain s t e acts b) (body_holds plain s t f others (body_placeless b))
body_alike s t e f r acts others h (all_of is) = items_agree plain plain plain_places s t is (items_placeless is) (items_bare is) e f r
body_alike s t e f r acts others h (some_of ys) = ways_alike e f r acts others h ys

action_alike : (s t : Valuation) (e f : Env) → EnvsButPlaces e f → (acts others : Acts) → ActsAlike acts others → (a : Action) (v : Option Value) → AgreeButPlaces (action_of plain s t e acts a v) (action_of plain s t f others (action_placeless a) v)
action_alike s t e f r acts others h a v = by a.parameter v
  where
    by : (x : Option Word) (v : Option Value) → AgreeButPlaces (with_argument x v e >>= (λ inner. body_holds plain s t inner acts a.body)) (with_argument x v f >>= (λ inner. body_holds plain s t inner others (body_placeless a.body)))
    by None None = body_alike s t e f r acts others h a.body
    by (Some x) (Some w) = body_alike s t (bind x w e) (bind x w f) (bind_places x w e f r) acts others h a.body
    by None (Some w) = refl
    by (Some x) None = refl

acts_alike : (s t : Valuation) (e f : Env) → EnvsButPlaces e f → (bs : List Action) (acts others : Acts) → ActsAlike acts others → ActsAlike (acts_of plain s t e bs acts) (acts_of plain s t f (map action_placeless bs) others)
acts_alike s t e f r [] acts others h = h
acts_alike s t e f r (a ∷ more) acts others h = acts_alike s t e f r more _ _ (λ x. by x (bytes_eq a.title x))
  where
    by : (x : Word) (b : Bool) → SameActs (cond b (Some (action_of plain s t e acts a)) (acts x)) (cond b (Some (action_of plain s t f others (action_placeless a))) (others x))
    by x true = λ v. action_alike s t e f r acts others h a v
    by x false = h x

-- ---- definitions

definitions_bare : (ds : List Definition) → DefinitionsButPlaces ds (map definition_placeless ds)
definitions_bare [] = tt
definitions_bare (d ∷ ds) = (record { title = refl; params = refl; body = bare d.body }, definitions_bare ds)

definitions_same : (ds : List Definition) → DefinitionsButPlaces ds ds
definitions_same [] = tt
definitions_same (d ∷ ds) = (record { title = refl; params = refl; body = refl }, definitions_same ds)

definitions_both : (ds es ds' es' : List Definition) → DefinitionsButPlaces ds ds' → DefinitionsButPlaces es es' → DefinitionsButPlaces (ds ++ es) (ds' ++ es')
definitions_both [] es [] es' h k = k
definitions_both (d ∷ ds) es (d' ∷ ds') es' h k = (h.0, definitions_both ds es ds' es' h.1 k)
definitions_both [] es (d' ∷ ds') es' h k = absurd h
definitions_both (d ∷ ds) es [] es' h k = absurd h

set_bare : (o : Option Tree) → DefinitionsButPlaces (process_set_defined o) (process_set_defined (perhaps_placeless o))
set_bare None = tt
set_bare (Some e) = (record { title = refl; params = refl; body = bare e }, tt)

-- ---- a module and itself without places

abbrev module_placeless : Module → Module
module_placeless m = record { title = m.title; outside = m.outside; region = region_placeless m.region }

scopes_alike : (m : Module) (values s t : Valuation) → EnvsButPlaces (scope plain m values s t) (scope plain (module_placeless m) values s t)
scopes_alike m values s t =
    scope_places plain plain plain_places values (definitions_in m) (definitions_in (module_placeless m))
    (definitions_both (found m.outside.definitions ++ m.region.definitions) (process_set_defined m.region.process_set)
    (found m.outside.definitions ++ map definition_placeless m.region.definitions) (process_set_defined (perhaps_placeless m.region.process_set))
    (definitions_both (found m.outside.definitions) m.region.definitions (found m.outside.definitions) (map definition_placeless m.region.definitions)
    (definitions_same (found m.outside.definitions)) (definitions_bare m.region.definitions)) (set_bare m.region.process_set)) s t

ended_bare : (vs : List Word) (o : Option Tree) → map action_placeless (terminating vs o) ≡ terminating vs (perhaps_placeless o)
ended_bare vs None = refl
ended_bare vs (Some e) = refl

map_both : (xs ys : List Action) → map action_placeless (xs ++ ys) ≡ map action_placeless xs ++ map action_placeless ys
map_both [] ys = refl
map_both (x ∷ xs) ys = ap (λ zs. action_placeless x ∷ zs) (map_both xs ys)

next_bare : (m : Module) (values s t : Valuation) → AgreeButPlaces (next_holds plain m values s t) (next_holds plain (module_placeless m) values s t)
next_bare m values s t =
    let e = scope plain m values s t in
    let f = scope plain (module_placeless m) values s t in
    let r = scopes_alike m values s t in
    let all = m.region.actions ++ terminating m.region.vars m.region.ended in
    ways_alike e f r (acts_in plain m values s t) (acts_in plain (module_placeless m) values s t)
    (subst (λ bs. ActsAlike (acts_in plain m values s t) (acts_of plain s t f bs no_acts)) (map_both m.region.actions (terminating m.region.vars m.region.ended) ∙ ap (λ zs. map action_placeless m.region.actions ++ zs) (ended_bare m.region.vars m.region.ended))
    (acts_alike s t e f r all no_acts no_acts (λ x. tt))) m.region.next

all_bare : (e f : Env) → EnvsButPlaces e f → (ts : List Tree) → AgreeButPlaces (all_hold plain e ts) (all_hold plain f (map tree_placeless ts))
all_bare e f r [] = refl
all_bare e f r (t ∷ ts) = and_same _ _ _ _ (truth_alike t e f r) (all_bare e f r ts)

-- ---- two modules

same_kinds : (k j i : Trouble) → SameKind k i → SameKind j i → SameKind k j
same_kinds (fault a p) (fault b q) (fault d r) h l = h ∙ sym l
same_kinds (over p) (over q) i h l = tt
same_kinds (fault a p) j (over r) h l = absurd h
same_kinds (over p) j (fault d r) h l = absurd h
same_kinds (fault a p) (over q) (fault d r) h l = absurd l
same_kinds (over p) (fault b q) (over r) h l = absurd l

-- two that agree with one agree
agree_both : (o p q : Verdict) → AgreeButPlaces o q → AgreeButPlaces p q → AgreeButPlaces o p
agree_both (Ok a) (Ok b) (Ok d) h k = h ∙ sym k
agree_both (Err a) (Err b) (Err d) h k = same_kinds a b d h k
agree_both (Ok a) p (Err d) h k = absurd h
agree_both (Err a) p (Ok d) h k = absurd h
agree_both (Ok a) (Err b) (Ok d) h k = absurd k
agree_both (Err a) (Ok b) (Err d) h k = absurd k

-- of the outside only the definitions are looked at
next_alike : (m n : Module) → region_placeless m.region ≡ region_placeless n.region → SameOutside m.outside n.outside → (values s t : Valuation) → next_holds plain (module_placeless m) values s t ≡ next_holds plain (module_placeless n) values s t
next_alike m n e k values s t = λ i. next_holds plain (record { title = m.title; outside = record { extended = m.outside.extended; constants = m.outside.constants; definitions = k.definitions i; opaque = m.outside.opaque }; region = e i }) values s t

init_alike : (m n : Module) → region_placeless m.region ≡ region_placeless n.region → SameOutside m.outside n.outside → (values s : Valuation) → init_holds plain (module_placeless m) values s ≡ init_holds plain (module_placeless n) values s
init_alike m n e k values s = λ i. init_holds plain (record { title = m.title; outside = record { extended = m.outside.extended; constants = m.outside.constants; definitions = k.definitions i; opaque = m.outside.opaque }; region = e i }) values s

pub truth_but_places : (m n : Module) → region_placeless m.region ≡ region_placeless n.region → SameOutside m.outside n.outside → (values s t : Valuation)
    → AgreeButPlaces (next_holds plain m values s t) (next_holds plain n values s t) × AgreeButPlaces (init_holds plain m values s) (init_holds plain n values s)
truth_but_places m n e k values s t = (
  agree_both (next_holds plain m values s t) (next_holds plain n values s t) (next_holds plain (module_placeless n) values s t)
      (subst (AgreeButPlaces (next_holds plain m values s t)) (next_alike m n e k values s t) (next_bare m values s t)) (next_bare n values s t),
  agree_both (init_holds plain m values s) (init_holds plain n values s) (init_holds plain (module_placeless n) values s)
      (subst (AgreeButPlaces (init_holds plain m values s)) (init_alike m n e k values s) (all_bare (scope plain m values s no_state) (scope plain (module_placeless m) values s no_state) (scopes_alike m values s no_state) m.region.init))
      (all_bare (scope plain n values s no_state) (scope plain (module_placeless n) values s no_state) (scopes_alike n values s no_state) n.region.init),
)
