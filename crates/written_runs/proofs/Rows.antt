-- Worked rows: a uniprocess algorithm of two steps, by some scripts, and the label that a value of pc names.
use Rattle.std.proofs.Common.{◌≡◌, ℕ, pos, List, [], ◌∷◌, map, false, codes, Option, Some, None, refl}
use Rattle.tla_token.specs.declared.place.Place.{Place}
use Rattle.tla_tree.specs.Tree.{Word, number, name, Tree, node, no_trees}
use Rattle.tla_value.specs.Stops.{plain}
use Rattle.tla_value.specs.Value.{Value, int, text}
use Rattle.pcal_tree.specs.declared.mark.Mark.TheVariants.{Plain}
use Rattle.pcal_tree.specs.Algorithm.{Name, no_assignments, assignment, assign, Statements, done, then, mark, equals, Declaration, alone, Routine, alone_routine}
use Rattle.pcal_tree.specs.Scope.{State}
use Rattle.pcal_tree.specs.Program.{Program}
use Rattle.pcal_tree.specs.Script.{Turn}
use Rattle.pcal_tree.specs.StepAnswers.{no_label, too_many_choices}
use Rattle.pcal_tree.specs.Variables.{pc}
use Rattle.step_runner.specs.Script.{Script}
use Rattle.step_runner.specs.Followed.{Stop}
use Rattle.written_runs.specs.WrittenRuns.{followed_once}
use Rattle.written_runs.specs.Stands.{stand_by_spots}

abbrev at : ℕ → Place
at n = record { line = 1; col = n }

abbrev title : ℕ → Word → Name
title n w = record { word = w; place = at n }

abbrev x : Word
x = codes "x"

abbrev y : Word
y = codes "y"

abbrev num : ℕ → Tree
num k = node (number k) (at 1) no_trees

abbrev var : Word → Tree
var w = node (name w) (at 1) no_trees

abbrev sets : Word → Tree → Statements → Statements
sets w e rest = then (record { first = at 1; last = at 1 }) (assign (assignment (var w) e no_assignments)) rest

abbrev variable : Word → Declaration
variable w = record { name = title 1 w; start = equals (num 0) }

-- A: x := 1; B: y := x
abbrev behind_b : Statements
behind_b = sets y (var x) done

abbrev body : Statements
body = mark (title 2 (codes "A")) Plain (sets x (num 1) (mark (title 3 (codes "B")) Plain behind_b))

-- variables x = 0, y = 0
abbrev P : Program
P = record {
  check = plain;
  constants = λ w. None;
  outside = [];
  algorithm = record { name = title 1 (codes "One"); fair = false; globals = variable x ∷ variable y ∷ []; definitions = []; macros = []; procedures = []; main = alone body };
  naming = record { local = λ n w. w; label = λ n l. l; title = λ n. codes "P" };
}

abbrev u : Routine
u = alone_routine P.algorithm body

-- ---- scripts

abbrev step : Turn
step = record { who = None; choices = [] }

abbrev script : List Turn → Script
script ns = record { choices = []; turns = ns }

abbrev stop_of : List Turn → Option Stop
stop_of ns = (followed_once P (script ns)).stop

abbrev values : State → List Value
values s = s x ∷ s y ∷ s pc ∷ []

abbrev told : ℕ → ℕ → Word → List Value
told a b l = int (pos a) ∷ int (pos b) ∷ text l ∷ []

to_the_end : stop_of (step ∷ step ∷ []) ≡ None
to_the_end = refl

each_state : map values (followed_once P (script (step ∷ step ∷ []))).states ≡ told 0 0 (codes "A") ∷ told 1 0 (codes "B") ∷ told 1 1 (codes "Done") ∷ []
each_state = refl

past_the_end : stop_of (step ∷ step ∷ step ∷ []) ≡ Some (record { step = 3; reply = no_label })
past_the_end = refl

one_choice_too_many : stop_of (record { who = None; choices = 1 ∷ [] } ∷ []) ≡ Some (record { step = 1; reply = too_many_choices (at 2) })
one_choice_too_many = refl

no_such_process : stop_of (step ∷ record { who = Some (int (pos 1)); choices = [] } ∷ []) ≡ Some (record { step = 2; reply = no_label })
no_such_process = refl

-- ---- labels

at_the_second : stand_by_spots P (text (codes "B")) (u ∷ []) ≡ Some (record { routine = u; label = codes "B"; begins = record { items = behind_b; exit = codes "Done" } })
at_the_second = refl

at_no_label : stand_by_spots P (text (codes "Done")) (u ∷ []) ≡ None
at_no_label = refl
