-- The module of a first algorithm: x counts one step, from label A.
use Rattle.std.specs.Prelude.{[], ◌∷◌, Some, None, codes}
use Rattle.tla_token.specs.declared.place.Place.{Place}
use Rattle.tla_tree.specs.declared.op.Op.{Op}
use Rattle.tla_tree.specs.declared.op.Op.TheVariants.{Equal, Plus}
use Rattle.tla_tree.specs.Tree.{Word, Form, number, string, name, strict, operator, Tree, node, no_trees, tree}
use Rattle.module_tree.specs.Module.{test, setting, no_items, item, call, one_way, all_of, Action, Region, Module}

abbrev pub here : Place
here = record { line = 1; col = 1 }

abbrev pub leaf : Form → Tree
leaf m = node m here no_trees

abbrev pub signed : Op → Tree → Tree → Tree
signed o a b = node (strict (operator o)) here (tree a (tree b no_trees))

abbrev pub x : Word
x = codes "x"

abbrev pub pc : Word
pc = codes "pc"

abbrev pub equals_text : Word → Word → Tree
equals_text y w = signed Equal (leaf (name y)) (leaf (string w))

abbrev pub step : Action
step = record {
  title = codes "A";
  parameter = None;
  body = all_of (item (test (equals_text pc (codes "A"))) (item (setting x (signed Plus (leaf (name x)) (leaf (number 1)))) (item (setting pc (leaf (string (codes "Done")))) no_items)));
}

abbrev pub region : Region
region = record {
  model_values = [];
  variables = x ∷ pc ∷ [];
  definitions = [];
  vars = x ∷ pc ∷ [];
  process_set = None;
  init = signed Equal (leaf (name x)) (leaf (number 0)) ∷ equals_text pc (codes "A") ∷ [];
  actions = step ∷ [];
  ended = Some (equals_text pc (codes "Done"));
  next = one_way (call (codes "A")) ∷ one_way (call (codes "Terminating")) ∷ [];
  fairness = [];
  termination = equals_text pc (codes "Done");
}

abbrev pub first : Module
first = record { title = codes "M"; outside = record { extended = codes "Integers" ∷ []; constants = []; definitions = []; opaque = [] }; region = region }
