-- What the assignments of jumps, calls and returns are made of, by words and their written names ("A PlusCal User's Manual", sections 3.2.9 and 3.4).
use Rattle.std.specs.Prelude.{ℕ, List, [], ◌∷◌, ◌++◌, codes, map, Option, Some, None}
use Rattle.tla_token.specs.Signs.{is_among}
use Rattle.tla_token.specs.declared.place.Place.{Place}
use Rattle.tla_tree.specs.declared.op.Op.TheVariants.{Concat}
use Rattle.tla_tree.specs.Tree.{Word, operator_call, strict, operator, tuple, fields, select, Tree, node, Trees, no_trees, tree, root_place, graft}
use Rattle.tla_tree.specs.TreeOf.{trees_from}
use Rattle.module_tree.specs.Formulas.{unset_value}
use Rattle.pcal_tree.specs.declared.algorithm.Procedure.{Procedure as Called}
use Rattle.pcal_tree.specs.InMemory.{declaration_at}
use Rattle.pcal_tree.specs.Algorithm.{nowhere, Start, equals, Declaration, Routine, Assignments, no_assignments, assignment, Naming}
use Rattle.pcal_tree.specs.Program.{Program}
use Rattle.pcal_tree.specs.Calls.{frame_fields}
use Rattle.pcal_tree.specs.Variables.{stack, pc}
use Rattle.prime_subst.specs.Readers.{renames_of}
use Rattle.action_builder.specs.Jumps.{name_at, text_at, one_assignment, stack_rest}
use Rattle.draft.specs.RoutineNames.{words_of}
use Rattle.proc_stack.specs.Made.{Sides}

-- [procedure |-> "P", pc |-> back, x |-> kept, ..]
abbrev pub frame_tree : Program → Routine → Place → Tree → Trees → Tree
frame_tree P p at back kept = node (strict (fields (frame_fields P p))) at (tree (text_at at (P.naming.title p.number)) (tree back kept))

-- ---- trees

-- F(e)
abbrev pub applied : Word → Tree → Tree
applied f e = node (operator_call f) nowhere (tree e no_trees)

-- Head(st)
abbrev pub first_of : Word → Tree
first_of st = applied (codes "Head") (name_at nowhere st)

-- r.x
abbrev pub selected : Tree → Word → Tree
selected r x = node (strict (select x)) nowhere (tree r no_trees)

-- x, or r.x where there is a record
abbrev pub value_kept : Option Tree → Word → Tree
value_kept None x = name_at nowhere x
value_kept (Some r) x = selected r x

-- the fields of a record for these parameters and variables
abbrev pub fields_for : Naming → ℕ → List Word → List Word
fields_for N n xs = codes "procedure" ∷ pc ∷ map (N.local n) xs

abbrev pub parts_for : Naming → ℕ → List Word → Tree → Option Tree → List Tree
parts_for N n xs back r = text_at nowhere (N.title n) ∷ back ∷ map (λ x. value_kept r (N.local n x)) xs

abbrev pub frame_for : Naming → ℕ → List Word → Tree → Option Tree → Tree
frame_for N n xs back r = node (strict (fields (fields_for N n xs))) nowhere (trees_from (parts_for N n xs back r))

-- <<r>> \o rest
abbrev pub pushed : Tree → Tree → Tree
pushed r rest = node (strict (operator Concat)) nowhere (tree (node (strict tuple) nowhere (tree r no_trees)) (tree rest no_trees))

-- ---- assignments

-- sides one after another, before others
abbrev pub joined : List Sides → Assignments → Assignments
joined [] last = last
joined (f ∷ fs) last = f (joined fs last)

-- x := r.x, by the written name of x
abbrev pub field_sides : (Word → Word) → Tree → Word → Sides
field_sides w r x = assignment (name_at nowhere (w x)) (selected r (w x))

-- a parameter at its argument's place, and as many as there are of both
abbrev pub argument_sides : (Word → Word) → Word → Tree → Sides
argument_sides w x t = assignment (name_at (root_place t) (w x)) t

abbrev pub arguments_sides : (Word → Word) → List Word → List Tree → List Sides
arguments_sides w (x ∷ xs) (t ∷ ts) = argument_sides w x t ∷ arguments_sides w xs ts
arguments_sides w _ _ = []

-- the stack, and the parameters ps among all names xs
abbrev pub entry : Naming → ℕ → List Word → List Word → Tree → Option Tree → Tree → List Tree → Assignments
entry N n xs ps back r rest ts =
    assignment (name_at nowhere stack) (pushed (frame_for N n xs back r) rest) (joined (arguments_sides (N.local n) ps ts) no_assignments)

-- a variable's initial value, with the names xs as they are written
abbrev pub initial_for : (Word → Word) → List Word → Start → Tree
initial_for w xs (equals e) = graft (renames_of (is_among xs) w) e
initial_for w xs _ = unset_value

abbrev pub variable_move : (Word → Word) → List Word → Declaration → Assignments
variable_move w xs d = one_assignment (name_at nowhere (w d.name.word)) (initial_for w xs d.start)

-- what a return sets
abbrev pub restored : (Word → Word) → List Word → List Sides
restored w xs =
    (assignment (name_at nowhere pc) (selected (first_of stack) pc) ∷ [])
    ++ (map (field_sides w (first_of stack)) xs
    ++ (assignment (name_at nowhere stack) (stack_rest nowhere) ∷ []))

-- the first assignments of a call of a procedure in memory: the stack and the parameters, then its variables
abbrev pub entered : Naming → ℕ → List Tree → Called → Tree → Option Tree → Tree → List Tree → List Assignments
entered N n ts p back r rest es =
    entry N n (words_of p.params.items ++ words_of p.variables.items) (words_of p.params.items) back r rest es
    ∷ map (λ d. variable_move (N.local n) (words_of p.params.items ++ words_of p.variables.items) (declaration_at ts d)) p.variables.items
