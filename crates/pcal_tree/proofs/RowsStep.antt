-- Processes, calls and initial states, tried by computation.
use Rattle.std.proofs.Common.{◌≡◌, ℕ, zero, suc, List, [], ◌∷◌, true, false, bytes_eq, cond, codes, Option, Some, None, refl, inl, inr, subst, sym, ap, Ok, Err}
use Rattle.tla_tree.specs.declared.op.Op.TheVariants.{Plus}
use Rattle.tla_tree.specs.Tree.{set_of, name, strict, node, no_trees, tree, Tree}
use Rattle.tla_value.specs.declared.fault.FaultKind.TheVariants.{SameIdentifier, NotInDomain, EmptySequence}
use Rattle.tla_value.specs.Value.{Value, text, model, set, fun, no_values, and, Outcome, fault, over}
use Rattle.tla_value.specs.Order.{seq_from, record_from}
use Rattle.pcal_tree.specs.declared.mark.Fairness.TheVariants.{Unfair}
use Rattle.pcal_tree.specs.Algorithm.{Statement, call, return, skip, Statements, done, unset, equals, among, Procedure, Process, processes, Routine, procedure_routine, process_routine}
use Rattle.pcal_tree.specs.Scope.{State, put}
use Rattle.pcal_tree.specs.Run.{Course, ends, stops}
use Rattle.pcal_tree.specs.Choices.{walk, went, failed, wanting}
use Rattle.pcal_tree.specs.Program.{Program, Actor}
use Rattle.pcal_tree.specs.Step.{pc_of, Stand, course_of, routines_of, Step, Stutters}
use Rattle.pcal_tree.specs.InitialStates.{allowed}
use Rattle.pcal_tree.specs.InitialChoice.{started, nothing}
use Rattle.pcal_tree.proofs.Sample.{at, title, x, num, var, over as sum_of, and_next, sets, labelled, an_int, variable, same_names, program}
use Rattle.tla_value.specs.Stops.{plain}
use Rattle.tla_value.specs.Limits.{bounded}
use Rattle.tla_value.specs.Definitions.{Valuation}
use Rattle.pcal_tree.specs.Variables.{pc, stack, vars}
use Rattle.pcal_tree.specs.Processes.{actors, OneOf}
use Rattle.pcal_tree.specs.FirstTrouble.{stand_named, trouble_of_all}

abbrev one : Statement → Statements
one st = and_next st done

-- procedure P(a = 0) variable b = a + 1; begin D: b := b + a; E: return; end procedure
abbrev proc : Procedure
proc = record {
  name = title (codes "P");
  params = variable (codes "a") (num 0) ∷ [];
  variables = variable (codes "b") (sum_of Plus (var (codes "a")) (num 1)) ∷ [];
  body = labelled (codes "D") (and_next (sets (var (codes "b")) (sum_of Plus (var (codes "b")) (var (codes "a")))) (labelled (codes "E") (one return)));
}

-- process Q \in {2, 1} variables z = self, w \in {5, 4}, d; begin A: z := z + x; B: call P(z); C: skip; end process
abbrev behind_a : Statements
behind_a =
    and_next (sets (var (codes "z")) (sum_of Plus (var (codes "z")) (var x)))
    (labelled (codes "B") (and_next (call (title (codes "P")) (tree (var (codes "z")) no_trees)) (labelled (codes "C") (one skip))))

abbrev proc_body : Statements
proc_body = labelled (codes "A") behind_a

abbrev two_processes : Process
two_processes = record {
  name = title (codes "Q");
  fairness = Unfair;
  several = true;
  identity = node (strict set_of) (at 1) (tree (num 2) (tree (num 1) no_trees));
  variables = variable (codes "z") (var (codes "self")) ∷ record { name = title (codes "w"); start = among (node (strict set_of) (at 1) (tree (num 5) (tree (num 4) no_trees))) } ∷ record { name = title (codes "d"); start = unset } ∷ [];
  body = proc_body;
}

-- process R = e, with a variable of its own
abbrev single : ℕ → Tree → Process
single n e = record { name = record { word = codes "R"; place = at n }; fairness = Unfair; several = false; identity = e; variables = variable (codes "v") (var (codes "self")) ∷ []; body = labelled (codes "F") (one (sets (var (codes "v")) (num 8))) }

-- variable x = 3
abbrev many : List Process → Program
many ps = program (record { name = title (codes "Many"); fair = false; globals = variable x (num 3) ∷ []; definitions = []; macros = []; procedures = proc ∷ []; main = processes ps })

abbrev P : Program
P = many (two_processes ∷ [])

abbrev the_process : Routine
the_process = process_routine 1 two_processes

abbrev the_procedure : Routine
the_procedure = procedure_routine 0 proc

abbrev number_two : Actor
number_two = record { self = Some (an_int 2); own = the_process }

-- a function on 1 and 2
abbrev on_both : Value → Value → Value
on_both a b = fun (and (an_int 1) (and (an_int 2) no_values)) (and a (and b no_values))

-- ---- processes and initial states

in_canonical_order : actors P ≡ Ok (record { self = Some (an_int 1); own = the_process } ∷ number_two ∷ [])
in_canonical_order = refl

all_variables : vars P ≡ codes "x" ∷ codes "pc" ∷ codes "stack" ∷ codes "a" ∷ codes "b" ∷ codes "z" ∷ codes "w" ∷ codes "d" ∷ []
all_variables = refl

shared : actors (many (single 3 (num 1) ∷ single 4 (num 2) ∷ single 5 (num 1) ∷ [])) ≡ Err (fault SameIdentifier (at 5))
shared = refl

-- z = self is taken for each identifier, a member of {4, 5} is chosen for 1 and then for 2
abbrev first_state : State
first_state =
    put pc (on_both (text (codes "A")) (text (codes "A"))) (put stack (on_both (seq_from []) (seq_from []))
    (put (codes "d") (on_both (model (codes "defaultInitValue")) (model (codes "defaultInitValue")))
    (put (codes "w") (on_both (an_int 5) (an_int 4)) (put (codes "z") (on_both (an_int 1) (an_int 2))
    (put (codes "b") (on_both (an_int 1) (an_int 1)) (put (codes "a") (on_both (an_int 0) (an_int 0)) (put x (an_int 3) nothing)))))))

made : walk (started P) (2 ∷ 1 ∷ []) ≡ went first_state []
made = refl

needs_choice : walk (started P) (2 ∷ []) ≡ wanting 2 (at 1)
needs_choice = refl

is_initial : allowed P first_state ≡ Ok true
is_initial = refl

-- w is no function on just 1 and 2
not_initial : allowed P (put (codes "w") (fun (and (an_int 1) no_values) (and (an_int 4) no_values)) first_state) ≡ Ok false
not_initial = refl

-- ---- steps

-- a step of a process from the label that its pc names
abbrev from_stand : Actor → Option Stand → State → Course
from_stand v None s = ends s
from_stand v (Some d) s = course_of P v d s

abbrev from_pc : Actor → Outcome Value → State → Course
from_pc v (Err k) s = stops k
from_pc v (Ok w) s = from_stand v (stand_named P w (routines_of P v)) s

abbrev step_of : Actor → State → Course
step_of v s = from_pc v (pc_of v s) s

-- A: z := z + x. The local of process 2 is at [2]
a_local : step_of number_two first_state ≡ ends (put pc (on_both (text (codes "A")) (text (codes "B"))) (put (codes "z") (on_both (an_int 1) (an_int 5)) first_state))
a_local = refl

abbrev at_b : State
at_b = put pc (on_both (text (codes "A")) (text (codes "B"))) first_state

-- B: call P(z). The record keeps the label C and the old values; a is the argument, and then b = a + 1
abbrev kept : Value
kept = record_from (codes "procedure" ∷ codes "pc" ∷ codes "a" ∷ codes "b" ∷ []) (text (codes "P") ∷ text (codes "C") ∷ an_int 0 ∷ an_int 1 ∷ [])

abbrev in_procedure : State
in_procedure =
    put pc (on_both (text (codes "A")) (text (codes "D"))) (put (codes "b") (on_both (an_int 1) (an_int 3))
    (put (codes "a") (on_both (an_int 0) (an_int 2)) (put stack (on_both (seq_from []) (seq_from (kept ∷ []))) at_b)))

a_call : step_of number_two at_b ≡ ends in_procedure
a_call = refl

-- E: return. The record is taken off, pc, a and b are as it has them
abbrev at_return : State
at_return = put pc (on_both (text (codes "A")) (text (codes "E"))) in_procedure

a_return : step_of number_two at_return ≡ ends (put stack (on_both (seq_from []) (seq_from [])) (put (codes "b") (on_both (an_int 1) (an_int 1)) (put (codes "a") (on_both (an_int 0) (an_int 0)) (put pc (on_both (text (codes "A")) (text (codes "C"))) at_return))))
a_return = refl

no_record : trouble_of_all P (put pc (on_both (text (codes "Done")) (text (codes "E"))) first_state) (number_two ∷ []) ≡ Some (fault EmptySequence (at 1))
no_record = refl

unreadable : trouble_of_all P (put pc (fun no_values no_values) first_state) (number_two ∷ []) ≡ Some (fault NotInDomain (at 1))
unreadable = refl

-- the first of these steps as a relation: process 2 is at A, of its own body
abbrev at_a : Stand
at_a = record { routine = the_process; label = codes "A"; begins = record { items = behind_a; exit = codes "Done" } }

abbrev moved_on : State
moved_on = put pc (on_both (text (codes "A")) (text (codes "B"))) (put (codes "z") (on_both (an_int 1) (an_int 5)) first_state)

a_step : Step P first_state moved_on
a_step = (number_two, at_a, (_, refl, inr (inl refl)), ((inl refl, refl, refl), (moved_on, refl, (refl, (refl, (refl, (refl, (refl, (refl, (refl, (refl, tt)))))))))))

-- ---- a single process: its variables are plain, and pc is a function

abbrev S : Program
S = program (record { name = title (codes "Single"); fair = false; globals = []; definitions = []; macros = []; procedures = []; main = processes (single 3 (num 7) ∷ []) })

abbrev only : Actor
only = record { self = Some (an_int 7); own = process_routine 0 (single 3 (num 7)) }

abbrev on_seven : Value → Value
on_seven a = fun (and (an_int 7) no_values) (and a no_values)

begun : walk (started S) [] ≡ went (put pc (on_seven (text (codes "F"))) (put (codes "v") (an_int 7) nothing)) []
begun = refl

-- ---- within the limits

-- sets in sets, so many deep
abbrev nested : ℕ → Value
nested zero = an_int 1
nested (suc n) = set (and (nested n) no_values)

-- process P \in {1} variable v = K, where K is a constant so deep
abbrev deep_constant : ℕ → Valuation
deep_constant n w = cond (bytes_eq (codes "K") w) (Some (nested n)) None

abbrev holder : Process
holder = record {
  name = record { word = codes "P"; place = at 3 };
  fairness = Unfair;
  several = true;
  identity = node (strict set_of) (at 4) (tree (num 1) no_trees);
  variables = record { name = record { word = codes "v"; place = at 5 }; start = equals (node (name (codes "K")) (at 6) no_trees) } ∷ [];
  body = labelled (codes "F") (one skip);
}

abbrev bounded_program : ℕ → Program
bounded_program n = record {
  check = bounded;
  constants = deep_constant n;
  outside = [];
  algorithm = record { name = title (codes "Deep"); fair = false; globals = []; definitions = []; macros = []; procedures = []; main = processes (holder ∷ []) };
  naming = same_names;
}

abbrev on_one : Value → Value
on_one a = fun (and (an_int 1) no_values) (and a no_values)

abbrev deep_state : ℕ → State
deep_state n = put pc (on_one (text (codes "F"))) (put (codes "v") (on_one (nested n)) nothing)

-- the function of the identifiers is one deeper than K
deep_within : allowed (bounded_program 199) (deep_state 199) ≡ Ok true
deep_within = refl

deep_past : allowed (bounded_program 200) (deep_state 200) ≡ Err (over (at 5))
deep_past = refl

made_within : walk (started (bounded_program 199)) [] ≡ went (deep_state 199) []
made_within = refl

made_past : walk (started (bounded_program 200)) [] ≡ failed (over (at 5))
made_past = refl

-- without limits it is a value as any other
deep_without : allowed (record (bounded_program 200) { check = plain }) (deep_state 200) ≡ Ok true
deep_without = refl

-- ---- no step

-- where process 7 is done nothing moves
abbrev ended : State
ended = put pc (on_seven (text (codes "Done"))) nothing

abbrev list_of : Outcome (List Actor) → List Actor
list_of (Ok vs) = vs
list_of (Err k) = []

still : Stutters S ended ended
still = (λ v h. only_one v (subst (OneOf v) (sym (ap list_of h.1)) h.2), (refl, (refl, tt)))
  where
    only_one : (v : Actor) → OneOf v (only ∷ []) → pc_of v ended ≡ Ok (text (codes "Done"))
    only_one v (inl p) = ap (λ w. pc_of w ended) p
    only_one v (inr h) = absurd h
