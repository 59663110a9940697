-- The conjuncts of Init: globals, the variables of procedures and of processes, the stack and pc ("A PlusCal User's Manual", sections 3.3, 3.4 and 4).
use Rattle.std.specs.Prelude.{List, [], ◌∷◌, ◌++◌, map, flat_map, true, false}
use Rattle.tla_token.specs.Places.{nowhere}
use Rattle.tla_tree.specs.Tree.{Word, Tree, node, cases, graft}
use Rattle.tla_tree.specs.TreeOf.{trees_from}
use Rattle.module_tree.specs.Formulas.{self, named, quoted, process_set, unset_value, empty_tuple, equal, is_in, function_of_self, functions_from}
use Rattle.pcal_tree.specs.Algorithm.{Start, unset, equals, among, Declaration, Main, alone, processes, Routine, locals, procedure_routines}
use Rattle.pcal_tree.specs.Takers.{Takers, each_of, single, lone, Taken, taken_main}
use Rattle.pcal_tree.specs.Program.{Program, written}
use Rattle.pcal_tree.specs.Calls.{label_name, first_label}
use Rattle.pcal_tree.specs.Variables.{pc, stack}
use Rattle.action_builder.specs.SingleProcess.{in_place_of}
use Rattle.action_builder.specs.WrittenNames.{renamed}
use Rattle.action_builder.specs.OwnVariables.{localised}
use Rattle.action_builder.specs.LabelActions.{taken_procedures}

-- ---- a variable

-- x = e, x \in S, with f of the expression
abbrev pub plain_start : (Tree → Tree) → Word → Start → Tree
plain_start f x unset = equal (named x) unset_value
plain_start f x (equals e) = equal (named x) (f e)
plain_start f x (among e) = is_in true (named x) (f e)

-- x = [self \in S |-> e], x \in [S -> T]; T is outside of all processes
abbrev pub spread_start : (Tree → Tree) → Tree → Word → Start → Tree
spread_start f s x unset = equal (named x) (function_of_self s unset_value)
spread_start f s x (equals e) = equal (named x) (function_of_self s (f e))
spread_start f s x (among e) = is_in true (named x) (functions_from s e)

-- an expression of a routine, in written names
abbrev pub written_in : Program → Routine → Tree → Tree
written_in P u e = localised P (renamed P u e)

abbrev pub start_by : Program → Routine → Takers → Word → Start → Tree
start_by P u (each_of s) x d = spread_start (written_in P u) s x d
start_by P u (single e) x d = plain_start (λ t. graft (in_place_of self e) (written_in P u t)) x d
start_by P u lone x d = plain_start (written_in P u) x d

abbrev pub locals_start : Program → Taken → List Tree
locals_start P t = map (λ d. start_by P t.routine t.takers (written P t.routine d.name.word) d.start) (locals t.routine)

abbrev pub globals_start : List Declaration → List Tree
globals_start ds = map (λ d. plain_start (λ e. e) d.name.word d.start) ds

-- ---- the stack and pc

-- the same value for all processes, or the one value
abbrev pub for_all_processes : Main → Tree → Tree
for_all_processes (alone ss) e = e
for_all_processes (processes ps) e = function_of_self process_set e

abbrev pub stack_start : Main → List Routine → List Tree
stack_start m [] = []
stack_start m (u ∷ us) = equal (named stack) (for_all_processes m empty_tuple) ∷ []

abbrev pub is_taker : Takers → Tree
is_taker (each_of s) = is_in true (named self) s
is_taker (single e) = equal (named self) e
is_taker lone = named self

abbrev pub first_pc : Program → Taken → Tree
first_pc P t = quoted (label_name P t.routine (first_label t.routine))

-- an arm of a CASE for each process; with one process there is none
abbrev pub arms : Program → List Taken → List Tree
arms P ts = flat_map (λ t. is_taker t.takers ∷ first_pc P t ∷ []) ts

abbrev pub pc_value : Program → List Taken → Tree
pc_value P (t ∷ []) = first_pc P t
pc_value P ts = node (cases false) nowhere (trees_from (arms P ts))

abbrev pub pc_start : Program → Tree
pc_start P = equal (named pc) (for_all_processes P.algorithm.main (pc_value P (taken_main P.algorithm P.algorithm.main)))

-- ---- all

abbrev pub init : Program → List Tree
init P =
    globals_start P.algorithm.globals
    ++ (flat_map (locals_start P) (taken_procedures P.algorithm)
    ++ (flat_map (locals_start P) (taken_main P.algorithm P.algorithm.main)
    ++ (stack_start P.algorithm.main (procedure_routines P.algorithm) ++ pc_start P ∷ [])))
