-- Worked rows: which states are initial by the written names, of an algorithm with a set and a remainder, and of two processes with variables of their own; and
-- traces of one state, beside modules whose Init is true, false or meets trouble.
use Rattle.std.proofs.Common.{◌≡◌, ◌++◌, ℕ, pos, Bool, true, false, List, [], ◌∷◌, codes, Some, None, Ok, refl}
use Rattle.tla_token.specs.declared.place.Place.{Place}
use Rattle.tla_tree.specs.declared.op.Op.TheVariants.{Modulo}
use Rattle.tla_tree.specs.Tree.{Word, Tree, Trees, number, name, truth as literal, strict, operator, set_of, node, no_trees, tree}
use Rattle.tla_value.specs.declared.fault.FaultKind.TheVariants.{BadDivisor}
use Rattle.tla_value.specs.Value.{Value, int, text, Outcome, fault, over}
use Rattle.tla_value.specs.Order.{seq_from}
use Rattle.tla_value.specs.Stops.{plain}
use Rattle.tla_value.specs.Definitions.{no_state}
use Rattle.pcal_tree.specs.declared.mark.Mark.TheVariants.{Plain}
use Rattle.pcal_tree.specs.declared.mark.Fairness.TheVariants.{Unfair}
use Rattle.pcal_tree.specs.Algorithm.{Name, skip, Statements, done, then, mark, Start, equals, among, Declaration, Main, alone, processes, alone_routine, Process, process_routine}
use Rattle.pcal_tree.specs.InitialChoice.{nothing}
use Rattle.pcal_tree.specs.Program.{Program, Actor}
use Rattle.pcal_tree.specs.Scope.{State, put}
use Rattle.pcal_tree.specs.Variables.{pc}
use Rattle.module_tree.specs.Module.{Module}
use Rattle.module_tree.proofs.First.{first}
use Rattle.step_runner.specs.Explained.{Explained, untrue, troubled}
use Rattle.written_traces.specs.AskedStarts.{as_written, start_asked}
use Rattle.written_traces.specs.WrittenTraces.{written_start_trouble, explained_once}

abbrev at : ℕ → Place
at n = record { line = 1; col = n }

abbrev title : ℕ → Word → Name
title n w = record { word = w; place = at n }

abbrev num : ℕ → Tree
num k = node (number k) (at 1) no_trees

abbrev var : Word → Tree
var w = node (name w) (at 1) no_trees

abbrev both : Tree → Tree → Trees
both a b = tree a (tree b no_trees)

abbrev declares : Word → Start → Declaration
declares w d = record { name = title 1 w; start = d }

abbrev an_int : ℕ → Value
an_int k = int (pos k)

-- A: skip
abbrev body : Statements
body = mark (title 2 (codes "A")) Plain (then (record { first = at 3; last = at 3 }) skip done)

-- the variables of processes have other written names
abbrev program : List Declaration → Main → Program
program ds m = record {
  check = plain;
  constants = λ w. None;
  outside = [];
  algorithm = record { name = title 5 (codes "One"); fair = false; globals = ds; definitions = []; macros = []; procedures = []; main = m };
  naming = record { local = λ n w. w ++ codes "_1"; label = λ n l. l; title = λ n. codes "P" };
}

-- ---- variables x \in {0, 1}, y = 7 % x

abbrev P : Program
P = program (declares (codes "x") (among (node (strict set_of) (at 1) (both (num 0) (num 1)))) ∷ declares (codes "y") (equals (node (strict (operator Modulo)) (at 7) (both (num 7) (var (codes "x"))))) ∷ []) (alone body)

abbrev one : List Actor
one = record { self = None; own = alone_routine P.algorithm body } ∷ []

abbrev state : ℕ → ℕ → State
state x y = put pc (text (codes "A")) (put (codes "y") (an_int y) (put (codes "x") (an_int x) nothing))

abbrev asked : ℕ → ℕ → Outcome Bool
asked x y = start_asked (as_written P) P one (state x y)

initial : asked 1 0 ≡ Ok true
initial = refl

another_remainder : asked 1 1 ≡ Ok false
another_remainder = refl

-- what comes after the first variable with another value isn't looked at
no_member : asked 2 1 ≡ Ok false
no_member = refl

no_divisor : written_start_trouble P one (state 0 0) ≡ Some (fault BadDivisor (at 7))
no_divisor = refl

-- ---- traces of one state

abbrev starting : Tree → Module
starting e = record first { region = record first.region { init = e ∷ [] } }

abbrev told : Tree → State → Explained
told e s = explained_once P (starting e) no_state (s ∷ [])

abbrev a_truth : Bool → Tree
a_truth b = node (literal b) (at 9) no_trees

shown : told (a_truth true) (state 1 0) ≡ record { states = state 1 0 ∷ []; halt = None }
shown = refl

not_initial : told (a_truth false) (state 1 0) ≡ record { states = []; halt = Some (untrue 0) }
not_initial = refl

-- the trouble is the algorithm's, and not that of Init
trouble_told : told (num 0) (state 0 0) ≡ record { states = []; halt = Some (troubled (fault BadDivisor (at 7))) }
trouble_told = refl

-- the algorithm meets none
trouble_of_init : told (num 0) (state 1 0) ≡ record { states = []; halt = Some (troubled (over (at 5))) }
trouble_of_init = refl

-- ---- process Q \in {1, 2} variables z = self, w = z

abbrev members : Process
members = record {
  name = title 6 (codes "Q");
  fairness = Unfair;
  several = true;
  identity = node (strict set_of) (at 1) (both (num 1) (num 2));
  variables = declares (codes "z") (equals (var (codes "self"))) ∷ declares (codes "w") (equals (var (codes "z"))) ∷ [];
  body = body;
}

abbrev Q : Program
Q = program [] (processes (members ∷ []))

abbrev member : ℕ → Actor
member k = record { self = Some (an_int k); own = process_routine 0 members }

abbrev pair : Value → Value → Value
pair a b = seq_from (a ∷ b ∷ [])

abbrev values : ℕ → ℕ → State
values a b = put pc (pair (text (codes "A")) (text (codes "A"))) (put (codes "w_1") (pair (an_int a) (an_int b)) (put (codes "z_1") (pair (an_int 1) (an_int 2)) nothing))

each_its_own : start_asked (as_written Q) Q (member 1 ∷ member 2 ∷ []) (values 1 2) ≡ Ok true
each_its_own = refl

of_the_other : start_asked (as_written Q) Q (member 1 ∷ member 2 ∷ []) (values 2 1) ≡ Ok false
of_the_other = refl
