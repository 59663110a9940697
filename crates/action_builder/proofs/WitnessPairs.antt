-- The name for the old stack meets what the laws ask of it, where a call that is one statement with a return is written.
use Rattle.std.proofs.Common.{◌≡◌, List, [], ◌∷◌, Bool, true, false, ◌&&◌, codes, refl}
use Rattle.std.proofs.lemmas.Bool.{and_parts}
use Rattle.tla_token.specs.declared.place.Place.{Place}
use Rattle.tla_tree.specs.Tree.{Word, Graft, Strict, strict, operator, tuple, fields, operator_call, Tree, node, Trees, tree, no_trees, Each, Every, EveryOf, binders}
use Rattle.tla_value.specs.Value.{IsBad}
use Rattle.tla_value.specs.Stops.{plain}
use Rattle.tla_value.specs.Meaning.{Env, eval, evals, part_values}
use Rattle.tla_value.specs.Definitions.{Valuation}
use Rattle.module_tree.specs.Module.{setting, Items, no_items, item}
use Rattle.module_tree.specs.ActionTruth.{item_holds, items_hold}
use Rattle.pcal_tree.specs.Algorithm.{nowhere, Statements, then, done, with, return}
use Rattle.pcal_tree.specs.Variables.{pc, stack}
use Rattle.action_builder.specs.Prepared.{prepared, none}
use Rattle.action_builder.specs.Jumps.{written_jumps}
use Rattle.action_builder.specs.Written.{old_stack, write}
use Rattle.action_builder.specs.SingleProcess.{in_place_of}
use Rattle.tla_tree.specs.declared.op.Op.TheVariants.{Plus, Concat}
use Rattle.action_builder.specs.laws.Ready.{Kept}
use Rattle.action_builder.specs.laws.Grafts.{ClearItems}
use Rattle.pcal_tree.specs.Tests.{is_empty}
use Rattle.tla_value.specs.laws.Grafting.{Clear, BindsClear}
use Rattle.action_builder.proofs.SetAgain.{bad_then, bad_in, bad_first}
use Rattle.action_builder.proofs.RowsPairs.{program, initials, places, caller, calls, var, later, num, word, over, one, head_of, and_next, nothing}

-- ---- no name is bound

no_names : {P : Type 0} → false ≡ true → P
no_names e = cc

abbrev mutual
  binds_none : Tree → Bool
  binds_none (node m at ts) = is_empty (binders m) && all_bind_none ts

  all_bind_none : Trees → Bool
  all_bind_none no_trees = true
  all_bind_none (tree t ts) = binds_none t && all_bind_none ts

none_clear : (g : Graft) (xs : List Word) → is_empty xs ≡ true → Each (Clear plain g) xs
none_clear g [] h = tt
none_clear g (x ∷ xs) h = no_names h

mutual
  clear_tree : (g : Graft) (t : Tree) → binds_none t ≡ true → Every (BindsClear plain g) t
  clear_tree g (node m at ts) h = let p = and_parts (is_empty (binders m)) (all_bind_none ts) h in (none_clear g (binders m) p.0, clear_trees g ts p.1)

  clear_trees : (g : Graft) (ts : Trees) → all_bind_none ts ≡ true → EveryOf (BindsClear plain g) ts
  clear_trees g no_trees h = tt
  clear_trees g (tree t ts) h = let p = and_parts (binds_none t) (all_bind_none ts) h in (clear_tree g t p.0, clear_trees g ts p.1)

abbrev bare_items : Items → Bool
bare_items no_items = true
bare_items (item (setting x e) js) = binds_none e && bare_items js
bare_items (item i js) = false

clear_items : (g : Graft) (js : Items) → bare_items js ≡ true → ClearItems plain g js
clear_items g no_items h = tt
clear_items g (item (setting x e) js) h = let p = and_parts (binds_none e) (bare_items js) h in (clear_tree g e p.0, clear_items g js p.1)
clear_items g (item i js) h = no_names h

-- ---- the first setting takes an operator of the old stack as its second part

second_bad : (o : Strict) (x f : Word) (p q : Place) (a e : Tree) (js : Items) (s t : Valuation) (env : Env) → IsBad (eval plain e env).value
    → IsBad (items_hold plain s t env (item (setting x (node (strict o) p (tree a (tree (node (operator_call f) q (tree e no_trees)) no_trees)))) js))
second_bad o x f p q a e js s t env h =
    bad_first (item_holds plain s t env (setting x (node (strict o) p (tree a (tree (node (operator_call f) q (tree e no_trees)) no_trees))))) (items_hold plain s t env js)
    (bad_then (eval plain (node (strict o) p (tree a (tree (node (operator_call f) q (tree e no_trees)) no_trees))) env).value _
    (bad_then (part_values (evals plain (tree a (tree (node (operator_call f) q (tree e no_trees)) no_trees))) env) _
    (bad_in (eval plain a env).value _ (λ z.
    bad_then (part_values (evals plain (tree (node (operator_call f) q (tree e no_trees)) no_trees)) env) _
    (bad_then (eval plain (node (operator_call f) q (tree e no_trees)) env).value _
    (bad_then (part_values (evals plain (tree e no_trees)) env) _ (bad_then (eval plain e env).value _ h)))))))

-- call R(m); return; in Q
abbrev pair : Statements
pair = prepared (written_jumps program caller initials places) (codes "self") nothing (codes "A") (codes "Done") (calls (codes "R") (tree (var (codes "m")) no_trees) (and_next return done))

abbrev body_items : Statements → Items
body_items (then at (with bs b) rest) = write [] none b
body_items _ = no_items

abbrev Asked : Statements → Type 0
Asked (then at (with bs b) rest) = Kept (stack ∷ []) none bs (write [] none b)
Asked _ = ⊥

abbrev record_of : Tree
record_of =
    node (strict tuple) nowhere (one (node (strict (fields (codes "procedure" ∷ pc ∷ codes "a" ∷ codes "b" ∷ codes "c" ∷ []))) nowhere
    (tree (word (codes "R")) (tree (head_of (var stack) pc) (tree (var (codes "a")) (tree (var (codes "b")) (one (var (codes "c")))))))))

abbrev after_stack : Items
after_stack =
    item (setting (codes "a") (var (codes "m"))) (item (setting (codes "b") (over Plus (later (codes "a")) (num 1))) (item (setting (codes "c") (num 3))
    (item (setting (codes "m") (head_of (var stack) (codes "m"))) (item (setting (codes "k") (head_of (var stack) (codes "k"))) (item (setting pc (word (codes "C"))) no_items)))))

old_stack_is_kept : Asked pair
old_stack_is_kept e = (
  refl,
  clear_items (in_place_of old_stack (var stack)) (body_items pair) refl,
  λ s t env h. second_bad (operator Concat) stack (codes "Tail") nowhere nowhere record_of (var stack) after_stack s t env h,
)
