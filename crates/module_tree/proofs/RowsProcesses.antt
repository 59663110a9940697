-- What a module with processes says of some pairs of states, by computation: process 7 counts n, and processes 1 and 2 have one step each.
use Rattle.std.proofs.Common.{◌≡◌, refl, Ok, Err}
use Rattle.std.specs.Prelude.{ℕ, pos, true, false, [], ◌∷◌, Some, None, codes, bytes_eq, cond}
use Rattle.tla_tree.specs.declared.op.Op.TheVariants.{Cup, Plus, Equal}
use Rattle.tla_tree.specs.Tree.{Word, index, number, string, name, strict, set_of, apply, except, Tree, node, no_trees, tree}
use Rattle.tla_value.specs.Value.{int, text, over}
use Rattle.tla_value.specs.Order.{fun_from}
use Rattle.tla_value.specs.Stops.{plain}
use Rattle.tla_value.specs.Limits.{bounded}
use Rattle.tla_value.specs.Definitions.{Valuation, no_state}
use Rattle.module_tree.specs.Module.{test, setting, unchanged, no_items, item, call, call_with, one_way, some_way, all_of, some_of, Region, outside_of, Module}
use Rattle.module_tree.specs.ActionTruth.{Verdict}
use Rattle.module_tree.specs.ModuleTruth.{next_holds, action_holds}
use Rattle.module_tree.specs.ProcessPart.{mine_holds}
use Rattle.module_tree.proofs.First.{here, leaf, signed}

abbrev n : Word
n = codes "n"

abbrev pc : Word
pc = codes "pc"

abbrev num : ℕ → Tree
num k = leaf (number k)

abbrev self : Tree
self = leaf (name (codes "self"))

abbrev at : Tree → Tree
at e = node (strict apply) here (tree (leaf (name pc)) (tree e no_trees))

abbrev stands : Tree → Word → Tree
stands e l = signed Equal (at e) (leaf (string l))

-- [pc EXCEPT ![e] = "Done"]
abbrev ended : Tree → Tree
ended e = node (strict (except (record { path = index ∷ []; place = here } ∷ []))) here (tree (leaf (name pc)) (tree e (tree (leaf (string (codes "Done"))) no_trees)))

abbrev one_two : Tree
one_two = node (strict set_of) here (tree (num 1) (tree (num 2) no_trees))

abbrev region : Region
region = record {
  model_values = [];
  variables = pc ∷ n ∷ [];
  definitions = [];
  vars = pc ∷ n ∷ [];
  process_set = Some (signed Cup (node (strict set_of) here (tree (num 7) no_trees)) one_two);
  init = [];
  actions =
      record { title = codes "A"; parameter = None; body = all_of (item (test (stands (num 7) (codes "A"))) (item (setting n (signed Plus (leaf (name n)) (num 1))) (item (setting pc (ended (num 7))) no_items))) }
      ∷ record { title = codes "P"; parameter = None; body = some_of (one_way (call (codes "A")) ∷ []) }
      ∷ record { title = codes "B"; parameter = Some (codes "self"); body = all_of (item (test (stands self (codes "B"))) (item (setting pc (ended self)) (item (unchanged (n ∷ [])) no_items))) }
      ∷ record { title = codes "Q"; parameter = Some (codes "self"); body = some_of (one_way (call_with (codes "B") self) ∷ []) }
      ∷ [];
  ended = None;
  next = one_way (call (codes "P")) ∷ some_way (codes "self") one_two (call_with (codes "Q") self) ∷ [];
  fairness = [];
  termination = leaf (name n);
}

abbrev processes : Module
processes = record { title = codes "M"; outside = outside_of []; region = region }

-- pc of 1, 2 and 7, and n
abbrev state : Word → Word → Word → ℕ → Valuation
state a b c k y = cond (bytes_eq y n) (Some (int (pos k))) (cond (bytes_eq y pc) (Some (fun_from ((int (pos 1), text a) ∷ (int (pos 2), text b) ∷ (int (pos 7), text c) ∷ []))) None)

abbrev B : Word
B = codes "B"

abbrev A : Word
A = codes "A"

abbrev Done : Word
Done = codes "Done"

-- process 2 steps
abbrev of : ℕ → Verdict
of v = mine_holds plain processes no_state (state B B A 1) (state B Done A 1) (Some (int (pos v)))

second : of 2 ≡ Ok true
second = refl

first : of 1 ≡ Ok false
first = refl

seventh : of 7 ≡ Ok false
seventh = refl

stepped : next_holds plain processes no_state (state B B A 1) (state B Done A 1) ≡ Ok true
stepped = refl

two_at_once : next_holds plain processes no_state (state B B A 1) (state Done Done A 1) ≡ Ok false
two_at_once = refl

counted : mine_holds plain processes no_state (state B B A 1) (state B B Done 2) (Some (int (pos 7))) ≡ Ok true
counted = refl

-- the action of the label alone
label : action_holds plain processes no_state (state B B A 1) (state B Done A 1) B (Some (int (pos 2))) ≡ Ok true
label = refl

-- past the limits of a run
past : mine_holds bounded processes no_state (state B B A 170141183460469231731687303715884105727) (state B B Done 2) (Some (int (pos 7))) ≡ Err (over here)
past = refl
