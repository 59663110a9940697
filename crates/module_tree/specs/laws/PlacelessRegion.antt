-- Translations without the places of their trees: two that differ in places alone are equal so.
use Rattle.std.specs.Prelude.{map, Option, Some, None, option_map}
use Rattle.tla_tree.specs.Tree.{Word, Tree}
use Rattle.tla_tree.specs.laws.Placeless.{tree_placeless}
use Rattle.tla_value.specs.Definitions.{Definition}
use Rattle.module_tree.specs.Module.{Item, test, setting, unchanged, exists, local, if_then_else, either, Items, no_items, item, Branches, no_branches, branch, Call, call, call_with, Way, one_way, some_way, Body, all_of, some_of, Action, Fairness, Region}

abbrev mutual
  pub item_placeless : Item → Item
  item_placeless (test e) = test (tree_placeless e)
  item_placeless (setting x e) = setting x (tree_placeless e)
  item_placeless (unchanged xs) = unchanged xs
  item_placeless (exists x s is) = exists x (tree_placeless s) (items_placeless is)
  item_placeless (local x e is) = local x (tree_placeless e) (items_placeless is)
  item_placeless (if_then_else p a b) = if_then_else (tree_placeless p) (items_placeless a) (items_placeless b)
  item_placeless (either bs) = either (branches_placeless bs)

  pub items_placeless : Items → Items
  items_placeless no_items = no_items
  items_placeless (item i is) = item (item_placeless i) (items_placeless is)

  pub branches_placeless : Branches → Branches
  branches_placeless no_branches = no_branches
  branches_placeless (branch is bs) = branch (items_placeless is) (branches_placeless bs)

abbrev pub call_placeless : Call → Call
call_placeless (call a) = call a
call_placeless (call_with a e) = call_with a (tree_placeless e)

abbrev pub way_placeless : Way → Way
way_placeless (one_way u) = one_way (call_placeless u)
way_placeless (some_way x s u) = some_way x (tree_placeless s) (call_placeless u)

abbrev pub body_placeless : Body → Body
body_placeless (all_of is) = all_of (items_placeless is)
body_placeless (some_of ys) = some_of (map way_placeless ys)

abbrev pub action_placeless : Action → Action
action_placeless a = record { title = a.title; parameter = a.parameter; body = body_placeless a.body }

abbrev pub over_placeless : Option (Word × Tree) → Option (Word × Tree)
over_placeless None = None
over_placeless (Some (x, s)) = Some (x, tree_placeless s)

abbrev pub perhaps_placeless : Option Tree → Option Tree
perhaps_placeless o = option_map tree_placeless o

abbrev pub fairness_placeless : Fairness → Fairness
fairness_placeless f = record { over = over_placeless f.over; strong = f.strong; guard = perhaps_placeless f.guard; action = call_placeless f.action }

abbrev pub definition_placeless : Definition → Definition
definition_placeless d = record { title = d.title; params = d.params; body = tree_placeless d.body; outside = d.outside }

abbrev pub region_placeless : Region → Region
region_placeless r = record {
  model_values = r.model_values;
  variables = r.variables;
  definitions = map definition_placeless r.definitions;
  vars = r.vars;
  process_set = perhaps_placeless r.process_set;
  init = map tree_placeless r.init;
  actions = map action_placeless r.actions;
  ended = perhaps_placeless r.ended;
  next = map way_placeless r.next;
  fairness = map fairness_placeless r.fairness;
  termination = tree_placeless r.termination;
}
