-- Assignments of jumps, calls and returns by their pieces.
use Rattle.std.proofs.Common.{◌≡◌, ℕ, List, [], ◌∷◌, ◌++◌, map, Some, None, Option, refl, sym, ap, ◌∙◌}
use Rattle.tla_token.specs.Signs.{is_among}
use Rattle.tla_tree.specs.Tree.{Word, Tree, Trees, tree, graft}
use Rattle.tla_tree.specs.TreeOf.{trees_from}
use Rattle.pcal_tree.specs.Algorithm.{nowhere, Start, unset, equals, among, Declaration, Routine, locals, Assignments, no_assignments, assignment, Naming, Statements, assign, then}
use Rattle.pcal_tree.specs.Program.{Program}
use Rattle.pcal_tree.specs.Variables.{pc, stack, declared}
use Rattle.prime_subst.specs.Readers.{renames_of}
use Rattle.action_builder.specs.Jumps.{name_at, one_assignment, kept_field, stack_rest, fields_restored, return_assignments, names_at, kept_fields, fields_of, arguments_assigned, pushed_on, variables_written, spot}
use Rattle.action_builder.specs.LabelActions.{initial_tree}
use Rattle.proc_stack.specs.Made.{Sides}
use Rattle.proc_stack.specs.Moves.{in_order}
use Rattle.proc_stack.specs.Pieces.{frame_tree, first_of, selected, value_kept, frame_for, pushed, joined, field_sides, argument_sides, arguments_sides, initial_for, variable_move, restored}

-- a record on the stack is a frame before the rest
pub pushed_is : (P : Program) (p : Routine) (back : Tree) (kept : Trees) (rest : Tree) → pushed_on P p nowhere back kept rest ≡ pushed (frame_tree P p nowhere back kept) rest
pushed_is P p back kept rest = refl

-- ---- sides one after another

pub joined_both : (fs gs : List Sides) (last : Assignments) → joined (fs ++ gs) last ≡ joined fs (joined gs last)
joined_both [] gs last = refl
joined_both (f ∷ fs) gs last = ap f (joined_both fs gs last)

fields_are : (w : Word → Word) (xs : List Word) (last : Assignments) → joined (map (field_sides w (first_of stack)) xs) last ≡ fields_restored nowhere (map w xs) last
fields_are w [] last = refl
fields_are w (x ∷ xs) last = ap (assignment (name_at nowhere (w x)) (kept_field nowhere (w x))) (fields_are w xs last)

pub return_is : (P : Program) (u : Routine) (N : Naming) (n : ℕ) (xs : List Word) → N ≡ P.naming → u.number ≡ n → declared (locals u) ≡ xs → joined (restored (N.local n) xs) no_assignments ≡ return_assignments P u nowhere
return_is P u N n xs named number names =
    (λ j. joined (restored ((named j).local (sym number j)) (sym names j)) no_assignments)
    ∙ ap (assignment (name_at nowhere pc) (kept_field nowhere pc))
    (joined_both (map (field_sides (P.naming.local u.number) (first_of stack)) (declared (locals u))) (assignment (name_at nowhere stack) (stack_rest nowhere) ∷ []) no_assignments
    ∙ fields_are (P.naming.local u.number) (declared (locals u)) (one_assignment (name_at nowhere stack) (stack_rest nowhere)))

-- what a return restores from the old stack
pub others_are : (w : Word → Word) (st : Word) (xs : List Word) → joined (map (field_sides w (first_of st)) xs) no_assignments ≡ fields_of nowhere st (map w xs)
others_are w st [] = refl
others_are w st (x ∷ xs) = ap (assignment (name_at nowhere (w x)) (selected (first_of st) (w x))) (others_are w st xs)

pub arguments_are : (w : Word → Word) (xs : List Word) (ts : List Tree) → joined (arguments_sides w xs ts) no_assignments ≡ arguments_assigned (map w xs) (trees_from ts)
arguments_are w [] ts = refl
arguments_are w (x ∷ xs) [] = refl
arguments_are w (x ∷ xs) (t ∷ ts) = ap (argument_sides w x t) (arguments_are w xs ts)

-- ---- records

pub names_kept : (w : Word → Word) (xs : List Word) → trees_from (map (λ x. value_kept None (w x)) xs) ≡ names_at nowhere (map w xs)
names_kept w [] = refl
names_kept w (x ∷ xs) = ap (tree (name_at nowhere (w x))) (names_kept w xs)

pub fields_kept : (w : Word → Word) (xs : List Word) → trees_from (map (λ x. value_kept (Some (first_of stack)) (w x)) xs) ≡ kept_fields nowhere (map w xs)
fields_kept w [] = refl
fields_kept w (x ∷ xs) = ap (tree (kept_field nowhere (w x))) (fields_kept w xs)

-- with the names that a procedure has
pub frame_is : (P : Program) (p : Routine) (N : Naming) (xs : List Word) (back : Tree) (r : Option Tree) (kept : Trees) → N ≡ P.naming → declared (locals p) ≡ xs
    → trees_from (map (λ x. value_kept r (P.naming.local p.number x)) (declared (locals p))) ≡ kept → frame_for N p.number xs back r ≡ frame_tree P p nowhere back kept
frame_is P p N xs back r kept named names same =
    (λ j. frame_for (named j) p.number (sym names j) back r)
    ∙ ap (frame_tree P p nowhere back) same

-- ---- variables

initial_is : (P : Program) (p : Routine) (s : Start) → initial_for (P.naming.local p.number) (declared (locals p)) s ≡ initial_tree P p s
initial_is P p unset = refl
initial_is P p (equals e) = refl
initial_is P p (among e) = refl

-- only which names they are matters
pub initial_among : (w : Word → Word) (xs ys : List Word) → ((x : Word) → is_among xs x ≡ is_among ys x) → (s : Start) → initial_for w xs s ≡ initial_for w ys s
initial_among w xs ys same unset = refl
initial_among w xs ys same (equals e) = λ j. graft (renames_of (λ x. same x j) w) e
initial_among w xs ys same (among e) = refl

pub starts_among : {A : Type 0} (w : Word → Word) (xs ys : List Word) → ((x : Word) → is_among xs x ≡ is_among ys x) → (f : A → Declaration) (ds : List A)
    → map (λ d. variable_move w xs (f d)) ds ≡ map (λ d. variable_move w ys (f d)) ds
starts_among w xs ys same f ds = λ j. map (λ d. one_assignment (name_at nowhere (w (f d).name.word)) (initial_among w xs ys same (f d).start j)) ds

-- ---- statements

abbrev pub in_front : List Assignments → Statements → Statements
in_front [] rest = rest
in_front (m ∷ ms) rest = then (spot nowhere) (assign m) (in_front ms rest)

pub order_both : (ms ns : List Assignments) → in_order (ms ++ ns) ≡ in_front ms (in_order ns)
order_both [] ns = refl
order_both (m ∷ ms) ns = ap (then (spot nowhere) (assign m)) (order_both ms ns)

pub variables_are : (P : Program) (p : Routine) (ds : List Declaration) (rest : Statements)
    → in_front (map (variable_move (P.naming.local p.number) (declared (locals p))) ds) rest ≡ variables_written P p (λ d. nowhere) (λ d. initial_tree P p d.start) ds rest
variables_are P p [] rest = refl
variables_are P p (d ∷ ds) rest =
    λ j. then (spot nowhere) (assign (one_assignment (name_at nowhere (P.naming.local p.number d.name.word)) (initial_is P p d.start j))) (variables_are P p ds rest j)
