-- The steps of a list of statements, those of its first before those of the rest; and what is asked of a step ("A PlusCal User's Manual", section 3.7, labels).
use Rattle.std.specs.Prelude.{◌≤◌, ℕ, zero, suc, List, [], ◌∷◌, length, map, drop}
use Rattle.std.specs.List.{AllByRecursion}
use Rattle.tla_tree.specs.Tree.{Word, Tree}
use Rattle.pcal_tree.specs.declared.algorithm.Stmt.{Stmt}
use Rattle.pcal_tree.specs.Algorithm.{Statements, done, then, mark, Procedure, Routine, locals, routines}
use Rattle.pcal_tree.specs.Expand.{graft_all}
use Rattle.pcal_tree.specs.InMemory.{statements_at}
use Rattle.pcal_tree.specs.Processes.{OneOf}
use Rattle.pcal_tree.specs.Program.{Program}
use Rattle.pcal_tree.specs.Run.{unlabelled, label_of}
use Rattle.pcal_tree.specs.Variables.{declared, vars}
use Rattle.name_bits.specs.NamesIn.{most, AllApart}
use Rattle.action_builder.specs.WrittenNames.{renames}
use Rattle.step_forms.specs.Steps.{Step, steps_in, steps}
use Rattle.step_items.specs.Writing.{to_finish, Fits}

-- ---- steps

-- that of a label before these statements in memory
abbrev pub step_from : List Tree → Word → Word → List Stmt → Step
step_from ts l x ss = record { label = l; begins = record { items = statements_at ts ss; exit = x } }

-- those that the first of a list gives
abbrev pub first_steps : Word → Statements → Word → List Step
first_steps here done x = []
first_steps here (then at st rest) x = steps_in here st (label_of rest x)
first_steps here (mark l k rest) x = record { label = l.word; begins = record { items = rest; exit = x } } ∷ []

-- where the one of this number is, in a list in memory that is at the label `here`
abbrev pub here_at : List Tree → Word → Word → List Stmt → ℕ → Word
here_at ts here x ss zero = here
here_at ts here x ss (suc i) = label_of (statements_at ts (drop i ss)) x

-- ---- what is asked

-- items can be written for it
abbrev pub StepFits : Program → Routine → Step → Type 0
StepFits P u s =
    Fits P (to_finish P u s.label s.begins.exit (graft_all (renames P u) s.begins.items)) (graft_all (renames P u) s.begins.items)

abbrev pub AllFit : Program → Routine → List Step → Type 0
AllFit P u ss = AllByRecursion (StepFits P u) ss

-- of a program: names are few enough and apart, and each step fits
pub record IsActable (P : Program) : Type 0 where
  pub few : length (vars P) ≤ most
  pub locals : (u : Routine) → OneOf u (routines P.algorithm) → AllApart (declared (locals u))
  pub procedures : AllApart (map (λ (p : Procedure). p.name.word) P.algorithm.procedures)
  pub steps : (u : Routine) → OneOf u (routines P.algorithm) → (s : Step) → OneOf s (steps unlabelled u.body u.exit) → StepFits P u s
