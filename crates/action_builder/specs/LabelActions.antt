-- The actions of labels and those of processes and procedures ("A PlusCal User's Manual", sections 3.3, 3.4 and 3.7; "Specifying Systems", section 2.3).
use Rattle.std.specs.Prelude.{List, [], ◌∷◌, ◌++◌, map, flat_map, Option, Some, None}
use Rattle.tla_tree.specs.Tree.{Word, Tree}
use Rattle.module_tree.specs.Module.{test, Items, no_items, item, Call, call, call_with, one_way, all_of, some_of, Action}
use Rattle.module_tree.specs.Formulas.{self, named, quoted, process_set, unset_value, equal}
use Rattle.pcal_tree.specs.Algorithm.{nowhere, Start, equals, Main, alone, processes, Routine, procedure_routines, Algorithm}
use Rattle.pcal_tree.specs.OffencesLabels.{label_words}
use Rattle.pcal_tree.specs.StepStart.{Begin, at_label}
use Rattle.pcal_tree.specs.Takers.{Takers, each_of, single, lone, Taken, taken_main}
use Rattle.pcal_tree.specs.Program.{Program}
use Rattle.pcal_tree.specs.Calls.{label_name}
use Rattle.pcal_tree.specs.Variables.{pc, vars}
use Rattle.action_builder.specs.Jumps.{InitialValues, JumpPlaces, written_jumps}
use Rattle.action_builder.specs.Prepared.{prepared, action_items}
use Rattle.action_builder.specs.SingleProcess.{in_place_of, graft_items}
use Rattle.action_builder.specs.WrittenNames.{renamed, written_statements}
use Rattle.action_builder.specs.OwnVariables.{is_own_variable, localised}

-- ---- who takes them

-- any process takes the steps of a procedure
abbrev pub procedure_takers : Main → Takers
procedure_takers (alone ss) = lone
procedure_takers (processes ps) = each_of process_set

abbrev pub taken_procedures : Algorithm → List Taken
taken_procedures a = map (λ u. record { takers = procedure_takers a.main; routine = u }) (procedure_routines a)

-- A(self) where any of some processes takes it
abbrev pub parameter_of : Takers → Option Word
parameter_of (each_of s) = Some self
parameter_of _ = None

abbrev pub call_by : Takers → Word → Call
call_by (each_of s) a = call_with a (named self)
call_by _ a = call a

-- the expression of a single process stands for `self`
abbrev pub items_by : Takers → Items → Items
items_by (single e) is = graft_items (in_place_of self e) is
items_by _ is = is

-- ---- a label's action

-- nothing that is written depends on places
abbrev pub no_jump_places : JumpPlaces
no_jump_places = record { goto = nowhere; call = λ at. nowhere; return = λ at. nowhere }

-- of a procedure's variable, in its written names
abbrev pub initial_tree : Program → Routine → Start → Tree
initial_tree P p (equals e) = renamed P p e
initial_tree P p _ = unset_value

abbrev pub written_initials : Program → InitialValues
written_initials P = record { place = λ p d. nowhere; initial = λ p d. initial_tree P p d.start }

-- pc[self] = "L"
abbrev pub at_test : Program → Routine → Word → Tree
at_test P u l = localised P (equal (named pc) (quoted (label_name P u l)))

-- with `self` for the process
abbrev pub items_from : Program → Routine → Word → Option Begin → Items
items_from P u l None = no_items  -- there is no such label
items_from P u l (Some b) =
    item (test (at_test P u l)) (action_items (vars P)
    (prepared (written_jumps P u (written_initials P) no_jump_places) self (is_own_variable P) l b.exit (written_statements P u b.items)))

abbrev pub label_action : Program → Taken → Word → Action
label_action P t l = record {
  title = label_name P t.routine l;
  parameter = parameter_of t.takers;
  body = all_of (items_by t.takers (items_from P t.routine l (at_label t.routine l)));
}

-- in the order of the text
abbrev pub label_actions : Program → Taken → List Action
label_actions P t = map (label_action P t) (label_words t.routine.body)

-- ---- of a procedure or process

abbrev pub title_of : Program → Taken → Word
title_of P t = P.naming.title t.routine.number

-- its labels' actions, one of which is true
abbrev pub own_action : Program → Taken → Action
own_action P t = record {
  title = title_of P t;
  parameter = parameter_of t.takers;
  body = some_of (map (λ l. one_way (call_by t.takers (label_name P t.routine l))) (label_words t.routine.body));
}

abbrev pub routine_actions : Program → Taken → List Action
routine_actions P t = label_actions P t ++ own_action P t ∷ []

-- the one body has no name, and no action of its own
abbrev pub main_actions : Program → Main → List Action
main_actions P (alone ss) = flat_map (label_actions P) (taken_main P.algorithm (alone ss))
main_actions P (processes ps) = flat_map (routine_actions P) (taken_main P.algorithm (processes ps))

abbrev pub actions : Program → List Action
actions P = flat_map (routine_actions P) (taken_procedures P.algorithm) ++ main_actions P P.algorithm.main
