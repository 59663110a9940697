-- The items of a whole step: the test at its label, those of its statements, and UNCHANGED for the rest.
use Rattle.std.proofs.Common.{◌≡◌, List, [], Option, Some, None, refl, sym, ap, ◌∙◌}
use Rattle.tla_token.specs.Signs.{is_among}
use Rattle.tla_token.specs.declared.place.Place.{Place}
use Rattle.tla_tree.specs.Tree.{Word, Form, name, Tree, node, Trees, no_trees, tree, Graft, grafted_name, grafted_node, graft, grafts}
use Rattle.tla_value.specs.Grafts.{primes}
use Rattle.module_tree.specs.Formulas.{self}
use Rattle.module_tree.specs.Module.{test, Items, no_items, item}
use Rattle.module_write.specs.declared.«module».Item.{Item}
use Rattle.module_write.specs.InMemory.{items_at}
use Rattle.pcal_tree.specs.declared.algorithm.Stmt.{Stmt}
use Rattle.pcal_tree.specs.Algorithm.{Routine}
use Rattle.pcal_tree.specs.InMemory.{statements_at}
use Rattle.pcal_tree.specs.Program.{Program}
use Rattle.pcal_tree.specs.Variables.{vars}
use Rattle.name_bits.specs.declared.bits.Bits.{Bits}
use Rattle.name_bits.specs.NamesIn.{names_in}
use Rattle.action_builder.specs.Assigned.{Names, assigned_in}
use Rattle.action_builder.specs.LabelActions.{at_test}
use Rattle.action_builder.specs.Prepared.{none}
use Rattle.action_builder.specs.SingleProcess.{in_place_of}
use Rattle.action_builder.specs.Written.{primed, left_of, onto, unchanged_of, write}
use Rattle.right_sides.specs.After.{put_one, put_items}
use Rattle.step_forms.specs.Steps.{step_items}
use Rattle.step_forms.proofs.WrittenLaws.{left_alike, put_unchanged}
use Rattle.step_items.specs.Writing.{named, to_finish, Writes}
use Rattle.right_sides.proofs.AfterLaws.{put_onto}

-- ---- nothing is assigned yet

module _ (g : Graft) (h : (x : Word) (p : Place) → g x p ≡ None) where
  same_node : (m : Form) (p : Place) (ts : Trees) → grafted_node g m p ts ≡ node m p ts
  same_node (name x) p ts = ap (λ (o : Option Tree). grafted_name o (name x) p ts) (h x p)
  same_node m p ts = refl

  mutual
    same_tree : (t : Tree) → graft g t ≡ t
    same_tree (node m p ts) = same_node m p (grafts g ts) ∙ ap (node m p) (same_trees ts)

    same_trees : (ts : Trees) → grafts g ts ≡ ts
    same_trees no_trees = refl
    same_trees (tree t ts) = λ i. tree (same_tree t i) (same_trees ts i)

-- the names of an empty set
pub no_names : (vs : List Word) (b : Bits) → names_in vs b ≡ [] → is_among (names_in vs b) ≡ none
no_names vs b h = ap is_among h

pub unprimed : (A : Names) → A ≡ none → (t : Tree) → primed A t ≡ t
unprimed A h t = ap (λ (B : Names). primed B t) h ∙ same_tree (primes none) (λ x p. refl) t

-- ---- the whole

test_first : (x : Option Tree) (t : Tree) (is : Items) → put_items self x (item (test t) is) ≡ item (test (put_one self x t)) (put_items self x is)
test_first None t is = refl
test_first (Some e) t is = refl

left_put : (x : Option Tree) (ws : List Word) → put_items self x (unchanged_of ws) ≡ unchanged_of ws
left_put None ws = refl
left_put (Some e) ws = put_unchanged (in_place_of self e) ws

pub step_written : (P : Program) (u : Routine) (x : Option Tree) (ts us vs : List Tree) (label exit : Word) (ss : List Stmt) (before made after : List Item) (earlier assigned : Bits) (order : List Word)
    → order ≡ vars P → names_in (vars P) earlier ≡ [] → items_at us before ≡ item (test (put_one self x (at_test P u label))) no_items
    → Writes P (put_items self x) us vs before made earlier assigned (to_finish P u label exit (named P u ts ss))
    → items_at vs after ≡ onto (items_at vs made) (unchanged_of (left_of order order (names_in order assigned)))
    → items_at vs after ≡ put_items self x (step_items P u (record { label = label; begins = record { items = statements_at ts ss; exit = exit } }))
step_written P u x ts us vs label exit ss before made after earlier assigned order o n begin w all =
    let S = to_finish P u label exit (named P u ts ss) in
    let t = at_test P u label in
    let written = write (vars P) none S in
    let left = left_of (vars P) (vars P) (assigned_in S) in
    all
    ∙ (λ i. onto (w.items i) (unchanged_of (left_of (o i) (o i) (names_in (o i) assigned))))
    ∙ (λ i. onto (onto (begin i) (put_items self x (write (vars P) (no_names (vars P) earlier n i) S))) (unchanged_of (left_alike (vars P) (vars P) (names_in (vars P) assigned) (vars P) (assigned_in S) (λ y. refl) w.names i)))
    ∙ ap (item (test (put_one self x t))) (ap (onto (put_items self x written)) (sym (left_put x left)) ∙ sym (put_onto self x written (unchanged_of left)))
    ∙ sym (test_first x t (onto written (unchanged_of left)))
