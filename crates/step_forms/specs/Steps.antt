-- The steps of a body, one for each label in the order of the text ("A PlusCal User's Manual", section 3.7, labels).
use Rattle.std.specs.Prelude.{List, [], ◌∷◌, ◌++◌, map, flat_map}
use Rattle.tla_tree.specs.Tree.{Word}
use Rattle.module_tree.specs.Formulas.{self}
use Rattle.module_tree.specs.Module.{test, Items, item, all_of, Action}
use Rattle.pcal_tree.specs.Algorithm.{Statement, branch, either, with, while, Statements, done, then, mark, Branches, no_branches, or, Main, alone, processes, Routine}
use Rattle.pcal_tree.specs.Run.{unlabelled, label_of}
use Rattle.pcal_tree.specs.StepStart.{Begin}
use Rattle.pcal_tree.specs.Expand.{graft_all}
use Rattle.pcal_tree.specs.Program.{Program}
use Rattle.pcal_tree.specs.Calls.{label_name}
use Rattle.pcal_tree.specs.Takers.{Taken, taken_main}
use Rattle.pcal_tree.specs.Variables.{vars}
use Rattle.action_builder.specs.Jumps.{written_jumps}
use Rattle.action_builder.specs.LabelActions.{parameter_of, items_by, no_jump_places, written_initials, at_test, own_action, taken_procedures}
use Rattle.action_builder.specs.OwnVariables.{is_own_variable}
use Rattle.action_builder.specs.Prepared.{prepared, action_items}
use Rattle.action_builder.specs.WrittenNames.{renames}

-- a label, and what a step from it begins with
pub record Step : Type 0 where
  pub label : Word
  pub begins : Begin

-- here: the label at which the statement or list is; x: the exit, as where a step begins
abbrev mutual
  pub steps_in : Word → Statement → Word → List Step
  steps_in here (branch e a b) x = steps unlabelled a x ++ steps unlabelled b x
  steps_in here (either bs) x = steps_some bs x
  steps_in here (with bs b) x = steps unlabelled b x
  steps_in here (while e b) x = steps unlabelled b here
  steps_in here _ x = []

  pub steps : Word → Statements → Word → List Step
  steps here done x = []
  steps here (then at st rest) x = steps_in here st (label_of rest x) ++ steps unlabelled rest x
  steps here (mark l k rest) x = record { label = l.word; begins = record { items = rest; exit = x } } ∷ steps l.word rest x

  pub steps_some : Branches → Word → List Step
  steps_some no_branches x = []
  steps_some (or b bs) x = steps unlabelled b x ++ steps_some bs x

-- ---- what is written for them, where no macro is called

abbrev pub step_items : Program → Routine → Step → Items
step_items P u s =
    item (test (at_test P u s.label)) (action_items (vars P)
    (prepared (written_jumps P u (written_initials P) no_jump_places) self (is_own_variable P) s.label s.begins.exit (graft_all (renames P u) s.begins.items)))

abbrev pub step_action : Program → Taken → Step → Action
step_action P t s = record {
  title = label_name P t.routine s.label;
  parameter = parameter_of t.takers;
  body = all_of (items_by t.takers (step_items P t.routine s));
}

abbrev pub step_actions : Program → Taken → List Action
step_actions P t = map (step_action P t) (steps unlabelled t.routine.body t.routine.exit)

-- of a procedure or process, and then its own
abbrev pub routine_steps : Program → Taken → List Action
routine_steps P t = step_actions P t ++ own_action P t ∷ []

abbrev pub main_steps : Program → Main → List Action
main_steps P (alone ss) = flat_map (step_actions P) (taken_main P.algorithm (alone ss))
main_steps P (processes ps) = flat_map (routine_steps P) (taken_main P.algorithm (processes ps))

-- all, in the order of the text
abbrev pub actions_by_steps : Program → List Action
actions_by_steps P = flat_map (routine_steps P) (taken_procedures P.algorithm) ++ main_steps P P.algorithm.main
