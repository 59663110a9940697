-- The texts of items and units of other algorithms' translations, by computation.
use Rattle.std.proofs.Common.{◌≡◌, refl}
use Rattle.std.specs.Prelude.{[], ◌∷◌, true, false, Some, None, codes}
use Rattle.tla_tree.specs.declared.op.Op.TheVariants.{Greater, Cup, Minus, Range}
use Rattle.tla_tree.specs.Tree.{string, name, next, strict, set_of, apply, member, Tree, node, no_trees, tree}
use Rattle.module_tree.specs.Module.{Item, test, setting, unchanged, exists, local, if_then_else, either, Items, no_items, item, no_branches, branch, call, call_with, one_way, some_way, some_of, process_set_unit, action_unit, next_unit, spec_unit}
use Rattle.module_tree.specs.Layout.{item_text, unit_text}
use Rattle.module_tree.proofs.First.{here, leaf, signed, x}

abbrev y : Tree
y = leaf (name (codes "y"))

abbrev self : Tree
self = leaf (name (codes "self"))

abbrev set : Tree → Tree
set e = node (strict set_of) here (tree e no_trees)

abbrev at : Tree → Tree → Tree
at f e = node (strict apply) here (tree f (tree e no_trees))

abbrev one : Item → Items
one i = item i no_items

chosen : item_text 2 (if_then_else (signed Greater (leaf (name x)) y) (one (setting (codes "y") self)) (one (unchanged (codes "y" ∷ [])))) ≡ codes "  /\\ IF x > y\n     THEN\n       /\\ y' = self\n     ELSE\n       /\\ UNCHANGED <<y>>\n"
chosen = refl

either_way : item_text 2 (either (branch (one (setting x y)) (branch (item (test y) (one (unchanged (x ∷ codes "z" ∷ [])))) no_branches))) ≡ codes "  /\\\n       \\/\n            /\\ x' = y\n       \\/\n            /\\ (y)\n            /\\ UNCHANGED <<x, z>>\n"
either_way = refl

with_some : item_text 2 (exists (codes "v") (node (strict set_of) here no_trees) (one (local x (signed Minus y self) (one (setting x (leaf (next (codes "v")))))))) ≡ codes "  /\\ \\E v \\in {} :\n       /\\ LET x == y - self IN\n            /\\ x' = v'\n"
with_some = refl

sets : unit_text 2 (process_set_unit (signed Cup (set y) (set self))) ≡ codes "ProcSet == {y} \\cup {self}\n"
sets = refl

-- a set for each process: the chain has no brackets, a set that is an operator has
abbrev three : Tree
three = signed Cup (signed Cup (set y) self) (set self)

three_sets : unit_text 3 (process_set_unit three) ≡ codes "ProcSet == {y} \\cup self \\cup {self}\n"
three_sets = refl

two_sets : unit_text 2 (process_set_unit three) ≡ codes "ProcSet == ({y} \\cup self) \\cup {self}\n"
two_sets = refl

ranges : unit_text 2 (process_set_unit (signed Cup (signed Range self y) (set y))) ≡ codes "ProcSet == (self..y) \\cup {y}\n"
ranges = refl

-- a single set is no operand
one_range : unit_text 1 (process_set_unit (signed Range self y)) ≡ codes "ProcSet == self..y\n"
one_range = refl

one_union : unit_text 1 (process_set_unit (signed Cup (signed Cup self y) y)) ≡ codes "ProcSet == (self \\cup y) \\cup y\n"
one_union = refl

own_action : unit_text 1 (action_unit (record { title = codes "P"; parameter = Some (codes "self"); body = some_of (one_way (call_with (codes "N") self) ∷ one_way (call_with (codes "E") self) ∷ []) })) ≡ codes "P(self) ==\n  \\/ N(self)\n  \\/ E(self)\n"
own_action = refl

nexts : unit_text 1 (next_unit (some_way (codes "self") (set y) (call_with (codes "P") self) ∷ one_way (call (codes "Terminating")) ∷ [])) ≡ codes "Next ==\n  \\/ \\E self \\in {y} : P(self)\n  \\/ Terminating\n"
nexts = refl

fair : unit_text 1 (spec_unit (record { over = Some (codes "self", set y); strong = false; guard = Some (node (member false) here (tree (at (leaf (name (codes "pc"))) self) (tree (set (leaf (string (codes "N")))) no_trees))); action = call_with (codes "P") self } ∷ record { over = Some (codes "self", signed Cup y y); strong = true; guard = None; action = call_with (codes "E") self } ∷ [])) ≡ codes "Spec ==\n  /\\ Init\n  /\\ [][Next]_vars\n  /\\ \\A self \\in {y} : WF_vars((pc[self] \\notin {\"N\"}) /\\ P(self))\n  /\\ \\A self \\in (y \\cup y) : SF_vars(E(self))\n"
fair = refl
