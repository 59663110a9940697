-- Init of an algorithm with a single process and a process set, which is accepted in its file, by the law: true of the state where each process's variables have their
-- initial values and each is at its first label, false of another.
use Rattle.std.proofs.Common.{◌≡◌, ℕ, [], ◌∷◌, true, false, cond, bytes_eq, codes, Some, None, refl, arith, Ok}
use Rattle.std.specs.Prelude.{pos}
use Rattle.tla_token.specs.declared.place.Place.{Place}
use Rattle.tla_tree.specs.declared.op.Op.TheVariants.{Plus}
use Rattle.tla_tree.specs.Spelling.{Phrase, last, more, set_of, infix_of}
use Rattle.tla_tree.specs.Spelling as spelled
use Rattle.tla_tree.specs.Tree.{Word, Name}
use Rattle.tla_value.specs.Stops.{plain}
use Rattle.tla_value.specs.Value.{Value, text, int, fun, values_in}
use Rattle.pcal_tree.specs.Algorithm.{Algorithm}
use Rattle.pcal_tree.specs.Grammar.{Text, algorithm, to_end, no_define, begin_end, processes, unfair, bare, algorithm_of, Good, p_syntax}
use Rattle.pcal_tree.specs.GrammarP.{simple, last_statement}
use Rattle.pcal_tree.specs.GrammarParts.{Labels, by_semicolon, equals, no_section, section, last_variable, colon, label, no_labels, assign, last_assignment}
use Rattle.pcal_tree.specs.Processes.{Proper}
use Rattle.pcal_tree.specs.Program.{Program}
use Rattle.pcal_tree.specs.Programs.{program_in}
use Rattle.pcal_tree.specs.Scope.{State}
use Rattle.pcal_tree.specs.Variables.{on_variables}
use Rattle.module_tree.specs.AlgorithmText.{algorithm_in}
use Rattle.module_tree.specs.Module.{Module}
use Rattle.module_tree.specs.ModuleTruth.{init_holds}
use Rattle.action_builder.specs.WrittenNames.{with_names}
use Rattle.promise.specs.ConstantsAndStates.{AreConstants, IsState}
use Rattle.translation.specs.Region.{region_of}
use Rattle.translation.specs.laws.AcceptedAlgorithm.{IsAcceptedInFile}
use Rattle.translation.proofs.InitRows.{told, values, no_constants, values_canonical}
use Rattle.translation.proofs.RowsProcesses as kinds
use Rattle.translation.proofs.Trees.{integers}
use Rattle.translation.proofs.RowsAccepted.{accepted_by}
use Rattle.translation.proofs.RowsStands.{both_have}

-- ---- the algorithm

abbrev at : ℕ → ℕ → Place
at l k = record { line = l; col = k }

abbrev named : ℕ → ℕ → Word → Name
named l k w = record { word = w; place = at l k }

abbrev number : ℕ → ℕ → ℕ → Phrase
number l k n = spelled.number (at l k) n

abbrev name : ℕ → ℕ → Word → Phrase
name l k w = spelled.name (at l k) w

abbrev marked : ℕ → Word → Labels
marked l w = label (named l 3 w) (colon (at l 4)) no_labels

-- process P = 7 variable n = 1; A: n := n + 1; and process Q \in {1, 2} variable m = self; B: m := 0;
abbrev both_text : Text
both_text = record {
  head = algorithm (at 4 1);
  name = named 4 13 (codes "R");
  around = to_end (at 15 1) (at 15 5);
  variables = no_section;
  define = no_define;
  macros = [];
  procedures = [];
  main = processes
      record {
        fair = unfair;
        place = at 5 1;
        identity = bare (named 5 9 (codes "P")) false (at 5 11) (number 5 13 7);
        variables = section (at 6 1) false (last_variable (named 6 10 (codes "n")) (equals (at 6 12) (number 6 14 1)) (Some (by_semicolon (at 6 15))));
        body = begin_end (at 7 1) (last_statement (marked 8 (codes "A")) (simple (assign (last_assignment (name 8 6 (codes "n")) (at 8 8) (infix_of (name 8 11 (codes "n")) (at 8 13) Plus (number 8 15 1))))) (Some (at 8 16))) (at 9 1) (at 9 5) None;
      }
      (record {
        fair = unfair;
        place = at 10 1;
        identity = bare (named 10 9 (codes "Q")) true (at 10 11) (set_of (at 10 15) (more (number 10 16 1) (at 10 17) (last (number 10 19 2))) (at 10 20));
        variables = section (at 11 1) false (last_variable (named 11 10 (codes "m")) (equals (at 11 12) (name 11 14 (codes "self"))) (Some (by_semicolon (at 11 18))));
        body = begin_end (at 12 1) (last_statement (marked 13 (codes "B")) (simple (assign (last_assignment (name 13 6 (codes "m")) (at 13 8) (number 13 11 0)))) (Some (at 13 12))) (at 14 1) (at 14 5) None;
      } ∷ []);
}

abbrev both : Algorithm
both = algorithm_of both_text

both_good : Good p_syntax both_text
both_good = search

both_accepted : IsAcceptedInFile integers both
both_accepted = accepted_by kinds.file both_text (algorithm_in kinds.file) integers refl both_good refl refl refl refl refl refl refl (omega arith) both_have

-- ---- states

abbrev m : Module
m = record { title = codes "M"; outside = integers; region = region_of false (with_names integers both) }

abbrev P : Program
P = program_in plain integers both values

constants_are : AreConstants m values
constants_are = record { unset = refl; given = tt; no_other = no_constants; canonical = values_canonical }

processes_are : Proper P
processes_are = (_, refl)

abbrev an : ℕ → Value
an n = int (pos n)

-- n = 1, m[1] = 1 and m[2] = v, and pc at A for 7, at B for 1 and 2
abbrev begun : Value → State
begun v x =
    cond (bytes_eq (codes "n") x) (an 1)
    (cond (bytes_eq (codes "m") x) (fun (values_in (an 1 ∷ an 2 ∷ [])) (values_in (an 1 ∷ v ∷ [])))
    (fun (values_in (an 1 ∷ an 2 ∷ an 7 ∷ [])) (values_in (text (codes "B") ∷ text (codes "B") ∷ text (codes "A") ∷ []))))

state_is : (n : ℕ) → IsState P (begun (an n))
state_is n = (((refl, (refl, (tt, tt))), (tt, (tt, (tt, tt))), (tt, (tt, (tt, tt))), refl), (tt, (((refl, (tt, tt)), (tt, (tt, tt)), (tt, (tt, tt)), refl), tt)))

starts : init_holds plain m values (on_variables P (begun (an 2))) ≡ Ok true
starts = told (codes "M") integers both both_accepted values (begun (an 2)) constants_are (state_is 2) processes_are true refl

does_not_start : init_holds plain m values (on_variables P (begun (an 1))) ≡ Ok false
does_not_start = told (codes "M") integers both both_accepted values (begun (an 1)) constants_are (state_is 1) processes_are false refl
