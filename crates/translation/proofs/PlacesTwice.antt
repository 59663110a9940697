-- Forgetting the places of a translation twice is forgetting them once.
use Rattle.std.proofs.Common.{◌≡◌, List, [], ◌∷◌, map, Option, Some, None, refl, ap}
use Rattle.tla_tree.specs.Tree.{Word, Tree}
use Rattle.tla_tree.specs.laws.Placeless.{tree_placeless}
use Rattle.tla_value.specs.Definitions.{Definition}
use Rattle.module_tree.specs.Module.{Item, test, setting, unchanged, exists, local, if_then_else, either, Items, no_items, item, Branches, no_branches, branch, Call, call, call_with, Way, one_way, some_way, Body, all_of, some_of, Action, Fairness, Region}
use Rattle.module_tree.specs.laws.PlacelessRegion.{item_placeless, items_placeless, branches_placeless, call_placeless, way_placeless, body_placeless, action_placeless, over_placeless, perhaps_placeless, fairness_placeless, definition_placeless, region_placeless}
use Rattle.module_tree.proofs.ModulePlaces.{tree_twice}

mutual
  item_twice : (t : Item) → item_placeless (item_placeless t) ≡ item_placeless t
  item_twice (test e) = ap test (tree_twice e)
  item_twice (setting x e) = ap (setting x) (tree_twice e)
  item_twice (unchanged xs) = refl
  item_twice (exists x e ts) = λ i. exists x (tree_twice e i) (items_twice ts i)
  item_twice (local x e ts) = λ i. local x (tree_twice e i) (items_twice ts i)
  item_twice (if_then_else e a b) = λ i. if_then_else (tree_twice e i) (items_twice a i) (items_twice b i)
  item_twice (either bs) = ap either (branches_twice bs)

  items_twice : (ts : Items) → items_placeless (items_placeless ts) ≡ items_placeless ts
  items_twice no_items = refl
  items_twice (item t ts) = λ i. item (item_twice t i) (items_twice ts i)

  branches_twice : (bs : Branches) → branches_placeless (branches_placeless bs) ≡ branches_placeless bs
  branches_twice no_branches = refl
  branches_twice (branch ts bs) = λ i. branch (items_twice ts i) (branches_twice bs i)

each_twice : {X : Type 0} (f : X → X) → ((x : X) → f (f x) ≡ f x) → (xs : List X) → map f (map f xs) ≡ map f xs
each_twice f h [] = refl
each_twice f h (x ∷ xs) = λ i. h x i ∷ each_twice f h xs i

call_twice : (c : Call) → call_placeless (call_placeless c) ≡ call_placeless c
call_twice (call a) = refl
call_twice (call_with a e) = ap (call_with a) (tree_twice e)

way_twice : (w : Way) → way_placeless (way_placeless w) ≡ way_placeless w
way_twice (one_way c) = ap one_way (call_twice c)
way_twice (some_way x s c) = λ i. some_way x (tree_twice s i) (call_twice c i)

body_twice : (b : Body) → body_placeless (body_placeless b) ≡ body_placeless b
body_twice (all_of ts) = ap all_of (items_twice ts)
body_twice (some_of ws) = ap some_of (each_twice way_placeless way_twice ws)

action_twice : (a : Action) → action_placeless (action_placeless a) ≡ action_placeless a
action_twice a = λ i. record { title = a.title; parameter = a.parameter; body = body_twice a.body i }

over_twice : (o : Option (Word × Tree)) → over_placeless (over_placeless o) ≡ over_placeless o
over_twice None = refl
over_twice (Some (x, s)) = λ i. Some (x, tree_twice s i)

perhaps_twice : (o : Option Tree) → perhaps_placeless (perhaps_placeless o) ≡ perhaps_placeless o
perhaps_twice None = refl
perhaps_twice (Some e) = ap Some (tree_twice e)

fairness_twice : (f : Fairness) → fairness_placeless (fairness_placeless f) ≡ fairness_placeless f
fairness_twice f = λ i. record { over = over_twice f.over i; strong = f.strong; guard = perhaps_twice f.guard i; action = call_twice f.action i }

definition_twice : (d : Definition) → definition_placeless (definition_placeless d) ≡ definition_placeless d
definition_twice d = λ i. record { title = d.title; params = d.params; body = tree_twice d.body i; outside = d.outside }

pub region_twice : (r : Region) → region_placeless (region_placeless r) ≡ region_placeless r
region_twice r = λ i. record {
  model_values = r.model_values;
  variables = r.variables;
  definitions = each_twice definition_placeless definition_twice r.definitions i;
  vars = r.vars;
  process_set = perhaps_twice r.process_set i;
  init = each_twice tree_placeless tree_twice r.init i;
  actions = each_twice action_placeless action_twice r.actions i;
  ended = perhaps_twice r.ended i;
  next = each_twice way_placeless way_twice r.next i;
  fairness = each_twice fairness_placeless fairness_twice r.fairness i;
  termination = tree_twice r.termination i;
}
