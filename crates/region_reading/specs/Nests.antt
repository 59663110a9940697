-- How deep a translation nests on its tree: each form counts one in each of its parts, a name none, and each list of an action, of Init, of Next or of Spec is one form.
use Rattle.std.specs.Prelude.{ℕ, ◌+◌, max, List, [], ◌∷◌, map, Option, Some, None}
use Rattle.tla_tree.specs.Tree.{Word, Tree}
use Rattle.tla_tree.specs.Nesting.{greatest, tree_nesting}
use Rattle.tla_value.specs.Definitions.{Definition}
use Rattle.tla_value.specs.DefinitionNesting.{Depths, definition_nests}
use Rattle.module_tree.specs.Module.{Item, test, setting, unchanged, exists, local, if_then_else, either, Items, no_items, item, Branches, no_branches, branch, Call, call, call_with, Way, one_way, some_way, Body, all_of, some_of, Action, Fairness, Region}

-- an expression that is a part
abbrev pub part_nests : Tree → ℕ
part_nests e = 1 + tree_nesting e

abbrev pub maybe_nests : Option Tree → ℕ
maybe_nests (Some e) = part_nests e
maybe_nests None = 0

-- ---- actions
abbrev mutual
  pub item_nests : Item → ℕ
  item_nests (test e) = part_nests e
  item_nests (setting x e) = part_nests e
  item_nests (unchanged xs) = 2
  item_nests (exists x e is) = max (part_nests e) (1 + list_nests is)
  item_nests (local x e is) = max (part_nests e) (1 + list_nests is)
  item_nests (if_then_else e is js) = max (part_nests e) (max (1 + list_nests is) (1 + list_nests js))
  item_nests (either bs) = branches_nest bs

  pub list_nests : Items → ℕ
  list_nests no_items = 0
  list_nests (item i is) = max (1 + item_nests i) (list_nests is)

  pub branches_nest : Branches → ℕ
  branches_nest no_branches = 0
  branches_nest (branch is bs) = max (1 + list_nests is) (branches_nest bs)

abbrev pub call_nests : Call → ℕ
call_nests (call a) = 0
call_nests (call_with a e) = part_nests e

abbrev pub way_nests : Way → ℕ
way_nests (one_way c) = call_nests c
way_nests (some_way x e c) = max (part_nests e) (1 + call_nests c)

-- of a list of ways, or of any forms that nest so deep
abbrev pub listed : List ℕ → ℕ
listed [] = 0
listed (n ∷ ns) = max (1 + n) (listed ns)

abbrev pub body_nests : Body → ℕ
body_nests (all_of is) = list_nests is
body_nests (some_of ys) = listed (map way_nests ys)

-- ---- Spec: with so much inside `\A x \in S :`, or behind `(e) /\`
abbrev pub over_nests : Option (Word × Tree) → ℕ → ℕ
over_nests (Some (x, e)) n = max (part_nests e) (1 + n)
over_nests None n = n

abbrev pub guard_nests : Option Tree → ℕ → ℕ
guard_nests (Some e) n = max (part_nests e) (1 + n)
guard_nests None n = n

abbrev pub fairness_nests : Fairness → ℕ
fairness_nests f = over_nests f.over (1 + guard_nests f.guard (call_nests f.action))

-- ---- the translation

-- definitions with the bodies of those before them in place of their names, each use being one form more
abbrev pub definitions_nest : Depths → List Definition → ℕ
definitions_nest ds [] = 0
definitions_nest ds (e ∷ es) = max (definition_nests ds e) (definitions_nest ((e.title, 1 + definition_nests ds e) ∷ ds) es)

-- `[][Next]_vars` in the list of Spec, and `<>(e)`, nest two deep and one
abbrev pub region_nests : Region → ℕ
region_nests r =
    max (definitions_nest [] r.definitions)
    (max (maybe_nests r.process_set)
    (max (listed (map tree_nesting r.init))
    (max (greatest (map (λ (a : Action). body_nests a.body) r.actions))
    (max (1 + maybe_nests r.ended)
    (max (listed (map way_nests r.next))
    (max (listed (map fairness_nests r.fairness))
    (part_nests r.termination)))))))
