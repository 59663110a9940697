-- Parts of a translation beside themselves without their places: their trees are the same but for these, and what a disjunct of Next calls is the same.
use Rattle.std.proofs.Common.{◌≡◌, ℕ, zero, suc, Bool, true, false, not, List, [], ◌∷◌, ◌++◌, map, filter, length, Option, Some, None, refl, sym, ap, ◌∙◌}
use Rattle.tla_tree.specs.declared.op.Op.TheVariants as op
use Rattle.tla_tree.specs.Tree.{Word, name, Tree, node, no_trees, tree, strict, operator}
use Rattle.tla_tree.specs.laws.Placeless.{tree_placeless}
use Rattle.tla_value.specs.Definitions.{Definition}
use Rattle.tla_value.specs.laws.Places.{TreesButPlaces, DefinitionsButPlaces}
use Rattle.module_tree.specs.Module.{Item, test, setting, unchanged, exists, local, if_then_else, either, Items, no_items, item, Branches, no_branches, branch, Way, one_way, some_way, Action}
use Rattle.module_tree.specs.laws.PlacelessRegion.{item_placeless, items_placeless, branches_placeless, way_placeless, action_placeless, perhaps_placeless, definition_placeless}
use Rattle.module_tree.specs.laws.ItemPlaces.{ItemButPlaces, ItemsButPlaces, BranchesButPlaces}
use Rattle.module_tree.specs.ModuleTruth.{process_set_defined, terminating}
use Rattle.module_tree.specs.Ways.{is_process_set, is_procedure, is_terminating, steps_of, own_steps, split_cup, sets_of, processes_in}
use Rattle.module_tree.proofs.LayoutBare.{terminating_is}
use Rattle.module_tree.proofs.ModulePlaces.{tree_twice}

pub bare : (t : Tree) → TreesButPlaces t (tree_placeless t)
bare t = sym (tree_twice t)

-- ---- items

mutual
  item_bare : (i : Item) → ItemButPlaces i (item_placeless i)
  item_bare (test e) = bare e
  item_bare (setting x e) = (refl, bare e)
  item_bare (unchanged xs) = refl
  item_bare (exists x e is) = (refl, bare e, items_bare is)
  item_bare (local x e is) = (refl, bare e, items_bare is)
  item_bare (if_then_else p a b) = (bare p, items_bare a, items_bare b)
  item_bare (either bs) = branches_bare bs

  pub items_bare : (is : Items) → ItemsButPlaces is (items_placeless is)
  items_bare no_items = tt
  items_bare (item i is) = (item_bare i, items_bare is)

  branches_bare : (bs : Branches) → BranchesButPlaces bs (branches_placeless bs)
  branches_bare no_branches = tt
  branches_bare (branch is bs) = (items_bare is, branches_bare bs)

-- ---- definitions

definitions_bare : (ds : List Definition) → DefinitionsButPlaces ds (map definition_placeless ds)
definitions_bare [] = tt
definitions_bare (d ∷ ds) = (record { title = refl; params = refl; body = bare d.body }, definitions_bare ds)

set_bare : (o : Option Tree) → DefinitionsButPlaces (process_set_defined o) (process_set_defined (perhaps_placeless o))
set_bare None = tt
set_bare (Some e) = (record { title = refl; params = refl; body = bare e }, tt)

-- beside the same definitions before them
behind : (ds es fs : List Definition) → DefinitionsButPlaces es fs → DefinitionsButPlaces (ds ++ es) (ds ++ fs)
behind [] es fs h = h
behind (d ∷ ds) es fs h = (record { title = refl; params = refl; body = refl }, behind ds es fs h)

joined : (ds es : List Definition) (o : Option Tree) → DefinitionsButPlaces ds es → DefinitionsButPlaces (ds ++ process_set_defined o) (es ++ process_set_defined (perhaps_placeless o))
joined [] [] o h = set_bare o
joined (d ∷ ds) (e ∷ es) o h = (h.0, joined ds es o h.1)
joined [] (e ∷ es) o h = absurd h
joined (d ∷ ds) [] o h = absurd h

pub all_bare : (fs ds : List Definition) (o : Option Tree)
    → DefinitionsButPlaces (fs ++ ds ++ process_set_defined o) (fs ++ map definition_placeless ds ++ process_set_defined (perhaps_placeless o))
all_bare fs ds o = joined (fs ++ ds) (fs ++ map definition_placeless ds) o (behind fs ds (map definition_placeless ds) (definitions_bare ds))

-- ---- actions

ended_bare : (vs : List Word) (o : Option Tree) → map action_placeless (terminating vs o) ≡ terminating vs (perhaps_placeless o)
ended_bare vs None = refl
ended_bare vs (Some e) = refl

pub actions_bare : (acts : List Action) (vs : List Word) (o : Option Tree) → map action_placeless (acts ++ terminating vs o) ≡ map action_placeless acts ++ terminating vs (perhaps_placeless o)
actions_bare [] vs o = ended_bare vs o
actions_bare (a ∷ acts) vs o = ap (λ (bs : List Action). action_placeless a ∷ bs) (actions_bare acts vs o)

-- ---- disjuncts of Next

set_is : (e : Tree) → is_process_set (tree_placeless e) ≡ is_process_set e
set_is (node (name x) at ts) = refl
set_is e = refl

procedure_is : (y : Way) → is_procedure (way_placeless y) ≡ is_procedure y
procedure_is (one_way u) = refl
procedure_is (some_way x s u) = set_is s

filtered : (p : Way → Bool) → ((y : Way) → p (way_placeless y) ≡ p y) → (ys : List Way) → filter p (map way_placeless ys) ≡ map way_placeless (filter p ys)
filtered p h [] = refl
filtered p h (y ∷ ys) = by (p y) (h y) refl (filtered p h ys)
  where
    by : (b : Bool) → p (way_placeless y) ≡ p y → p y ≡ b → filter p (map way_placeless ys) ≡ map way_placeless (filter p ys) → filter p (map way_placeless (y ∷ ys)) ≡ map way_placeless (filter p (y ∷ ys))
    by true e f g = rw (e ∙ f, f) (ap (λ (zs : List Way). way_placeless y ∷ zs) g)
    by false e f g = rw (e ∙ f, f) g

pub steps_bare : (ys : List Way) → steps_of (map way_placeless ys) ≡ map way_placeless (steps_of ys)
steps_bare ys = filtered (λ y. not (is_terminating y)) (λ y. ap not (terminating_is y)) ys

pub own_bare : (ys : List Way) → own_steps (map way_placeless ys) ≡ map way_placeless (own_steps ys)
own_bare ys =
    ap (λ (zs : List Way). filter (λ y. not (is_procedure y)) zs) (steps_bare ys)
    ∙ filtered (λ y. not (is_procedure y)) (λ y. ap not (procedure_is y)) (steps_of ys)

pub procedures_bare : (ys : List Way) → filter is_procedure (steps_of (map way_placeless ys)) ≡ map way_placeless (filter is_procedure (steps_of ys))
procedures_bare ys = ap (λ (zs : List Way). filter is_procedure zs) (steps_bare ys) ∙ filtered is_procedure procedure_is (steps_of ys)

-- ---- the sets of ProcSet

as_many : (ys : List Way) → length (map way_placeless ys) ≡ length ys
as_many [] = refl
as_many (y ∷ ys) = ap suc (as_many ys)

split_bare : (n : ℕ) (e : Tree) (es : List Tree) → split_cup n (tree_placeless e) (map tree_placeless es) ≡ map tree_placeless (split_cup n e es)
split_bare (suc n) (node (strict (operator op.Cup)) at (tree a (tree b no_trees))) es = split_bare n a (b ∷ es)
split_bare n e es = refl

sets_bare : (n : ℕ) (o : Option Tree) → sets_of n (perhaps_placeless o) ≡ map tree_placeless (sets_of n o)
sets_bare n None = refl
sets_bare zero (Some e) = refl
sets_bare (suc n) (Some e) = split_bare n e []

pub all_sets_bare : (ys : List Way) (o : Option Tree) → sets_of (processes_in (map way_placeless ys)) (perhaps_placeless o) ≡ map tree_placeless (sets_of (processes_in ys) o)
all_sets_bare ys o =
    ap (λ (n : ℕ). sets_of n (perhaps_placeless o)) (ap length (own_bare ys) ∙ as_many (own_steps ys)) ∙ sets_bare (processes_in ys) o
