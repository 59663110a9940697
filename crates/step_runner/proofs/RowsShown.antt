-- Texts of states, tried by computation.
use Rattle.std.proofs.Common.{◌≡◌, ℕ, pos, true, false, List, [], ◌∷◌, ◌++◌, Option, Some, None, Ok, refl, codes, cond}
use Rattle.std.specs.Fmt.{digits}
use Rattle.tla_token.specs.declared.place.Place.{Place}
use Rattle.tla_tree.specs.declared.op.Op.TheVariants.{Less, Plus}
use Rattle.tla_tree.specs.Tree.{Word, Tree, Trees, name, number, truth as literal, strict, operator, set_of, node, no_trees, tree}
use Rattle.tla_value.specs.declared.fault.FaultKind.TheVariants.{BadDivisor}
use Rattle.tla_value.specs.Value.{Value, int, text, truth, fault, over}
use Rattle.tla_value.specs.Order.{seq_from, same}
use Rattle.tla_value.specs.Stops.{plain}
use Rattle.tla_value.specs.Definitions.{Valuation}
use Rattle.pcal_tree.specs.declared.mark.Mark.TheVariants.{Plain}
use Rattle.pcal_tree.specs.declared.mark.Fairness.TheVariants.{Unfair}
use Rattle.pcal_tree.specs.Algorithm.{Statement, skip, assign, no_assignments, assignment, while, Statements, done, then, mark, equals, Declaration, Main, alone, processes}
use Rattle.pcal_tree.specs.Scope.{State, put}
use Rattle.pcal_tree.specs.Program.{Program}
use Rattle.pcal_tree.specs.Variables.{pc}
use Rattle.pcal_tree.specs.InitialChoice.{nothing}
use Rattle.pcal_tree.specs.Processes.{actors}
use Rattle.pcal_tree.specs.Script.{Turn}
use Rattle.pcal_tree.specs.StepAnswers.{held_at, no_label, needs_choice, too_many_choices}
use Rattle.module_tree.specs.Module.{Module}
use Rattle.module_tree.specs.ActionTruth.{Verdict}
use Rattle.step_runner.specs.Script.{Script}
use Rattle.step_runner.specs.Followed.{followed}
use Rattle.step_runner.specs.StopLines.{script_line, state_line, trouble_line}
use Rattle.step_runner.specs.Shown.{run_text, trace_text, known, first_holding, step_before, before_text, why_text}

abbrev at : ℕ → ℕ → Place
at l c = record { line = l; col = c }

abbrev of_form : Tree → Tree → Tree
of_form a b = node (strict (operator Less)) (at 1 1) (tree a (tree b no_trees))

abbrev var : Word → Tree
var w = node (name w) (at 1 1) no_trees

abbrev num : ℕ → Tree
num k = node (number k) (at 1 1) no_trees

abbrev sets : Word → Tree → Statement
sets w e = assign (assignment (var w) e no_assignments)

abbrev and_next : Statement → Statements → Statements
and_next st rest = then (record { first = at 7 6; last = at 7 20 }) st rest

abbrev declares : Word → Tree → Declaration
declares w e = record { name = record { word = w; place = at 5 1 }; start = equals e }

-- each label's written name is another
abbrev program : List Declaration → Main → Program
program ds m = record {
  check = plain;
  constants = λ w. None;
  outside = [];
  algorithm = record { name = record { word = codes "R"; place = at 4 13 }; fair = false; globals = ds; definitions = []; macros = []; procedures = []; main = m };
  naming = record { local = λ n w. w; label = λ n l. l ++ codes "_1"; title = λ n. codes "Q" };
}

abbrev an_int : ℕ → Value
an_int k = int (pos k)

abbrev turn : Option Value → Turn
turn v = record { who = v; choices = [] }

-- ---- i = 0, d = FALSE; A: while i < 1 do i := i + 1; end while; d := TRUE;

abbrev looping : Program
looping = program (declares (codes "i") (num 0) ∷ declares (codes "d") (node (literal false) (at 1 1) no_trees) ∷ []) (alone (mark (record { word = codes "A"; place = at 7 3 }) Plain (
    and_next (while (of_form (var (codes "i")) (num 1)) (and_next (sets (codes "i") (node (strict (operator Plus)) (at 1 1) (tree (var (codes "i")) (tree (num 1) no_trees)))) done))
    (and_next (sets (codes "d") (node (literal true) (at 1 1) no_trees)) done))))

abbrev state : ℕ → Value → Word → State
state i d l = put pc (text l) (put (codes "d") d (put (codes "i") (an_int i) nothing))

three_states : run_text looping (turn None ∷ turn None ∷ []) (state 0 (truth false) (codes "A_1") ∷ state 1 (truth false) (codes "A_1") ∷ state 1 (truth true) (codes "Done") ∷ [])
    ≡ codes "State 0: initial\n/\\ i = 0\n/\\ d = FALSE\n/\\ pc = \"A_1\"\nState 1: A_1 at 7:3\n/\\ i = 1\n/\\ d = FALSE\n/\\ pc = \"A_1\"\nState 2: A_1 at 7:3\n/\\ i = 1\n/\\ d = TRUE\n/\\ pc = \"Done\"\n"
unfolding digits
three_states = refl

-- ---- x = 0; process P \in S begin A: skip; end process

abbrev members : Trees → Program
members ts = program (declares (codes "x") (num 0) ∷ []) (processes (record { name = record { word = codes "P"; place = at 6 9 }; fairness = Unfair; several = true; identity = node (strict set_of) (at 1 1) ts; variables = []; body = mark (record { word = codes "A"; place = at 7 3 }) Plain (and_next skip done) } ∷ []))

-- without a process each pair is the end, whatever the module is
abbrev still : State
still = put pc (seq_from []) (put (codes "x") (an_int 0) nothing)

no_process : (m : Module) (c : Valuation) → trace_text (members no_trees) m c (still ∷ still ∷ []) ≡ codes "State 0: initial\n/\\ x = 0\n/\\ pc = <<>>\nState 1: Terminating\n/\\ x = 0\n/\\ pc = <<>>\n"
unfolding digits
no_process m c = refl

-- of those whose action holds the first is named, with its identifier
abbrev three : Program
three = members (tree (num 3) (tree (num 2) (tree (num 1) no_trees)))

abbrev at_a : State
at_a = put pc (seq_from (text (codes "Done") ∷ text (codes "A_1") ∷ text (codes "A_1") ∷ [])) still

abbrev is_past : Option Value → Verdict
is_past None = Ok false
is_past (Some v) = cond (same v (an_int 1)) (Ok false) (Ok true)

the_second : before_text (step_before three at_a (first_holding is_past (known (actors three)))) ≡ codes "A_1 of 2 at 7:3"
unfolding digits
the_second = refl

none_holds : before_text (step_before three at_a (first_holding (λ v. Ok false) (known (actors three)))) ≡ codes "Terminating"
none_holds = refl

-- ---- why a step can't be taken

held_back : why_text {X = State} (held_at (at 7 6)) ≡ Some (codes "held at 7:6")
unfolding digits
held_back = refl

without_label : why_text {X = State} no_label ≡ Some (codes "no label")
without_label = refl

of_two : why_text {X = State} (needs_choice 2 (at 7 6)) ≡ Some (codes "choice of 2 at 7:6")
unfolding digits
of_two = refl

left_over : why_text {X = State} (too_many_choices (at 7 3)) ≡ Some (codes "too many choices at 7:3")
unfolding digits
left_over = refl

-- ---- lines of stops

script_stops : script_line {X = State} 1 (held_at (at 7 6)) ≡ Some (codes "pcal: script step 1: held at 7:6\n")
unfolding digits
script_stops = refl

not_initial : state_line 0 ≡ codes "pcal: state 0 is not initial\n"
not_initial = refl

no_step : state_line 1 ≡ codes "pcal: state 1 is no step\n"
unfolding digits
no_step = refl

faults : trouble_line (codes "M.tla") (fault BadDivisor (at 7 11)) ≡ codes "pcal: M.tla:7:11: fault BadDivisor\n"
unfolding digits
faults = refl

limited : trouble_line (codes "M.tla") (over (at 7 11)) ≡ codes "pcal: M.tla:7:11: limit\n"
unfolding digits
limited = refl

-- ---- scripts that are followed

abbrev script : List Turn → Script
script ns = record { choices = []; turns = ns }

abbrev two_turns : List Turn
two_turns = turn None ∷ turn None ∷ []

to_the_end : run_text looping two_turns (followed looping (script two_turns)).states
    ≡ codes "State 0: initial\n/\\ i = 0\n/\\ d = FALSE\n/\\ pc = \"A_1\"\nState 1: A_1 at 7:3\n/\\ i = 1\n/\\ d = FALSE\n/\\ pc = \"A_1\"\nState 2: A_1 at 7:3\n/\\ i = 1\n/\\ d = TRUE\n/\\ pc = \"Done\"\n"
unfolding digits
to_the_end = refl

no_stop : (followed looping (script two_turns)).stop ≡ None
no_stop = refl

-- the third step has no label
too_far : (followed looping (script (turn None ∷ turn None ∷ turn None ∷ []))).stop ≡ Some (record { step = 3; reply = no_label })
too_far = refl

-- no variable has a choice at the start
left_at_start : followed looping (record { choices = 1 ∷ []; turns = [] }) ≡ record { states = []; stop = Some (record { step = 0; reply = too_many_choices (at 4 13) }) }
left_at_start = refl
