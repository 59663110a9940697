-- What modules in memory stand for, where the pool has these trees; and that their numbers are of the pool.
use Rattle.std.specs.Prelude.{ℕ, ◌+◌, ◌<◌, ◌≤◌, max, List, [], ◌∷◌, map, Vec, Option, Some, None}
use Rattle.std.specs.List.{AllByRecursion}
use Rattle.std.specs.Option.{option_map}
use Rattle.std.specs.declared.alloc.Global.{Global}
use Rattle.tla_tree.specs.Tree.{Word, Tree}
use Rattle.tla_tree.specs.Pool.{at, AllBelow}
use Rattle.tla_tree.specs.Nesting.{greatest}
use Rattle.tla_value.specs.Outside as pure
use Rattle.tla_value.specs.Defs.{definitions_at, read_at, DefinitionsIn}
use Rattle.module_write.specs.declared.«module».Item.{Item}
use Rattle.module_write.specs.declared.«module».Item.TheOpen.{Item-F}
use Rattle.module_write.specs.declared.«module».Item.TheFolds.{fold-Item}
use Rattle.module_write.specs.declared.«module».Call.{Call}
use Rattle.module_write.specs.declared.«module».Call.TheVariants as call
use Rattle.module_write.specs.declared.«module».Way.{Way}
use Rattle.module_write.specs.declared.«module».Way.TheVariants as way
use Rattle.module_write.specs.declared.«module».Body.{Body}
use Rattle.module_write.specs.declared.«module».Body.TheVariants as body
use Rattle.module_write.specs.declared.«module».Action.{Action}
use Rattle.module_write.specs.declared.«module».Fairness.{Fairness}
use Rattle.module_write.specs.declared.«module».Region.{Region}
use Rattle.module_write.specs.declared.«module».Opaque.{Opaque}
use Rattle.module_write.specs.declared.«module».Outside.{Outside}
use Rattle.module_write.specs.declared.«module».Module.{Module}
use Rattle.module_tree.specs.Module as tree
pub use Rattle.module_lines.specs.Maybe.{MaybeIn}

-- ---- actions

abbrev pub items_from : List tree.Item → tree.Items
items_from [] = tree.no_items
items_from (i ∷ is) = tree.item i (items_from is)

abbrev pub branches_from : List tree.Items → tree.Branches
branches_from [] = tree.no_branches
branches_from (b ∷ bs) = tree.branch b (branches_from bs)

-- an item, with what the items in it stand for
abbrev pub item_step : List Tree → Item-F tree.Item → tree.Item
item_step ts (Item-F.Test e) = tree.test (at ts e)
item_step ts (Item-F.Setting x e) = tree.setting x (at ts e)
item_step ts (Item-F.Unchanged xs) = tree.unchanged xs
item_step ts (Item-F.Exists x s is) = tree.exists x (at ts s) (items_from is.items)
item_step ts (Item-F.Local x e is) = tree.local x (at ts e) (items_from is.items)
item_step ts (Item-F.Choice p a b) = tree.if_then_else (at ts p) (items_from a.items) (items_from b.items)
item_step ts (Item-F.Either bs) = tree.either (branches_from (map (λ (b : Vec tree.Item Global). items_from b.items) bs.items))

abbrev pub item_at : List Tree → Item → tree.Item
item_at ts = fold-Item tree.Item (item_step ts)

abbrev pub items_at : List Tree → List Item → tree.Items
items_at ts is = items_from (map (item_at ts) is)

abbrev pub branches_at : List Tree → List (Vec Item Global) → tree.Branches
branches_at ts bs = branches_from (map (λ (b : Vec Item Global). items_at ts b.items) bs)

abbrev pub call_at : List Tree → Call → tree.Call
call_at ts (call.Bare a) = tree.call a
call_at ts (call.With a e) = tree.call_with a (at ts e)

abbrev pub way_at : List Tree → Way → tree.Way
way_at ts (way.One c) = tree.one_way (call_at ts c)
way_at ts (way.Among x s c) = tree.some_way x (at ts s) (call_at ts c)

abbrev pub ways_at : List Tree → List Way → List tree.Way
ways_at ts ys = map (way_at ts) ys

abbrev pub body_at : List Tree → Body → tree.Body
body_at ts (body.All is) = tree.all_of (items_at ts is.items)
body_at ts (body.Any ys) = tree.some_of (ways_at ts ys.items)

abbrev pub action_at : List Tree → Action → tree.Action
action_at ts a = record { title = a.title; parameter = a.parameter; body = body_at ts a.body }

abbrev pub actions_at : List Tree → List Action → List tree.Action
actions_at ts acts = map (action_at ts) acts

-- ---- the translation

abbrev pub over_at : List Tree → Option (Word × ℕ) → Option (Word × Tree)
over_at ts None = None
over_at ts (Some (x, s)) = Some (x, at ts s)

abbrev pub fairness_at : List Tree → Fairness → tree.Fairness
fairness_at ts f = record { over = over_at ts f.over; strong = f.strong; guard = option_map (at ts) f.guard; action = call_at ts f.action }

abbrev pub region_at : List Tree → Region → tree.Region
region_at ts r = record {
  model_values = r.model_values;
  variables = r.variables;
  definitions = definitions_at ts r.definitions;
  vars = r.vars;
  process_set = option_map (at ts) r.process_set;
  init = map (at ts) r.init.items;
  actions = actions_at ts r.actions.items;
  ended = option_map (at ts) r.ended;
  next = ways_at ts r.next.items;
  fairness = map (fairness_at ts) r.fairness.items;
  termination = at ts r.termination;
}

-- ---- the module

abbrev pub opaque_of : Opaque → pure.Opaque
opaque_of o = record { keyword = o.keyword; names = o.names; place = o.place }

abbrev pub outside_at : List Tree → Outside → pure.Outside
outside_at ts o = record {
  extended = o.extended;
  constants = o.constants.items;
  definitions = map (read_at ts) o.definitions;
  opaque = map opaque_of o.opaque.items;
}

abbrev pub module_at : List Tree → Module → tree.Module
module_at ts m = record { title = m.title; outside = outside_at ts m.outside; region = region_at ts m.region }

-- ---- their numbers are below m

-- past the numbers of an item: the least number that is above each
abbrev pub past_step : Item-F ℕ → ℕ
past_step (Item-F.Test e) = e + 1
past_step (Item-F.Setting x e) = e + 1
past_step (Item-F.Unchanged xs) = 0
past_step (Item-F.Exists x s is) = max (s + 1) (greatest is.items)
past_step (Item-F.Local x e is) = max (e + 1) (greatest is.items)
past_step (Item-F.Choice p a b) = max (p + 1) (max (greatest a.items) (greatest b.items))
past_step (Item-F.Either bs) = greatest (map (λ (b : Vec ℕ Global). greatest b.items) bs.items)

abbrev pub past_item : Item → ℕ
past_item = fold-Item ℕ past_step

abbrev pub past_items : List Item → ℕ
past_items is = greatest (map past_item is)

abbrev pub past_branches : List (Vec Item Global) → ℕ
past_branches bs = greatest (map (λ (b : Vec Item Global). past_items b.items) bs)

abbrev pub CallIn : ℕ → Call → Type 0
CallIn m (call.Bare a) = Unit {0}
CallIn m (call.With a e) = e < m

abbrev pub WayIn : ℕ → Way → Type 0
WayIn m (way.One c) = CallIn m c
WayIn m (way.Among x s c) = (s < m) × CallIn m c

abbrev pub WaysIn : ℕ → List Way → Type 0
WaysIn m ys = AllByRecursion (WayIn m) ys

abbrev pub BodyIn : ℕ → Body → Type 0
BodyIn m (body.All is) = past_items is.items ≤ m
BodyIn m (body.Any ys) = WaysIn m ys.items

abbrev pub ActionsIn : ℕ → List Action → Type 0
ActionsIn m acts = AllByRecursion (λ (a : Action). BodyIn m a.body) acts

abbrev pub OverIn : ℕ → Option (Word × ℕ) → Type 0
OverIn m None = Unit {0}
OverIn m (Some (x, s)) = s < m

pub record FairnessIn (m : ℕ) (f : Fairness) : Type 0 where
  pub over : OverIn m f.over
  pub guard : MaybeIn m f.guard
  pub action : CallIn m f.action

abbrev pub AllFairnessIn : ℕ → List Fairness → Type 0
AllFairnessIn m fs = AllByRecursion (FairnessIn m) fs

pub record RegionIn (m : ℕ) (r : Region) : Type 0 where
  pub definitions : DefinitionsIn m r.definitions
  pub process_set : MaybeIn m r.process_set
  pub init : AllBelow m r.init.items
  pub actions : ActionsIn m r.actions.items
  pub ended : MaybeIn m r.ended
  pub next : WaysIn m r.next.items
  pub fairness : AllFairnessIn m r.fairness.items
  pub termination : r.termination < m
