-- The worked file of processes and a procedure: nothing is wrong with it, and what is written for it has both sides, by computation.
use Rattle.std.proofs.Common.{◌≡◌, ◌<◌, length, [], ◌∷◌, Bool, true, false, codes, Some, None, refl, sym, subst, arith}
use Rattle.tla_token.specs.Limits.{past_text}
use Rattle.tla_tree.specs.Reader.{readers, readers_in}
use Rattle.tla_tree.specs.Spelling.{last, more, set_of, infix_of}
use Rattle.tla_tree.specs.declared.op.Op.TheVariants.{Plus, Minus, Greater}
use Rattle.tla_value.specs.Outside.{Outside}
use Rattle.pcal_tree.specs.Algorithm.{Algorithm}
use Rattle.pcal_tree.specs.Grammar.{Text, algorithm, to_end, no_define, begin_end, processes, weak, bare, algorithm_of}
use Rattle.pcal_tree.specs.GrammarP.{simple, branch, no_else, last_statement, more_statements}
use Rattle.pcal_tree.specs.GrammarParts.{by_semicolon, equals, no_section, section, last_variable, last_parameter, some_parameters, some_arguments, colon, colon_plus, colon_minus, label, no_labels, assign, last_assignment, call, return}
use Rattle.pcal_tree.specs.Labelled.{labelled}
use Rattle.pcal_tree.specs.OpenForms.{opens}
use Rattle.module_tree.specs.AlgorithmText.{algorithm_in}
use Rattle.module_tree.specs.Walk.{walk}
use Rattle.module_tree.specs.laws.Outsides.{HasOutside}
use Rattle.module_tree.proofs.SomeOutside.{outside_read, has_outside}
use Rattle.file_answer.specs.Checking.{OfTree, AnswersChecking}
use Rattle.translation.specs.Worked.{MeetsPremises}
use Rattle.translation.specs.WorkedFiles.{adding_file, adding_constants, adding}
use Rattle.translation.proofs.RowsProcedures.{sequences}
use Rattle.translation.proofs.RowsRight.{nothing, text_of, IsSpelled, spelled_holds, nothing_wrong}
use Rattle.translation.proofs.RowsRuns.{no_other, all_canonical}
use Rattle.translation.proofs.RowsShown.{IsComputed, meets}
use Rattle.translation.proofs.RowsSpelled.{at, named, number, name}

abbrev pub adding_text : Text
adding_text = record {
  head = algorithm (at 4 1);
  name = named 4 13 (codes "Adding");
  around = to_end (at 23 1) (at 23 5);
  variables = section (at 5 1) true (last_variable (named 5 11 (codes "total")) (equals (at 5 17) (number 5 19 0)) (Some (by_semicolon (at 5 20))));
  define = no_define;
  macros = [];
  procedures = record {
    place = at 6 1;
    name = named 6 11 (codes "Add");
    parameters = some_parameters (at 6 14) (last_parameter (named 6 15 (codes "n")) (equals (at 6 17) (number 6 19 0))) (at 6 20);
    variables = no_section;
    body = begin_end (at 7 1)
        (more_statements (label (named 8 3 (codes "P")) (colon (at 8 4)) no_labels) (simple (assign (last_assignment (name 8 6 (codes "total")) (at 8 12) (infix_of (name 8 15 (codes "total")) (at 8 21) Plus (name 8 23 (codes "n")))))) (at 8 24)
        (more_statements no_labels (branch (at 9 6) (infix_of (name 9 9 (codes "n")) (at 9 11) Greater (number 9 13 0)) (at 9 15)
        (more_statements no_labels (simple (call (at 9 20) (named 9 25 (codes "Add")) (some_arguments (at 9 28) (last (infix_of (name 9 29 (codes "n")) (at 9 31) Minus (number 9 33 1))) (at 9 34)))) (at 9 35)
        (last_statement no_labels (simple (return (at 9 37))) (Some (at 9 43))))
        no_else (at 9 45) (at 9 49)) (at 9 51)
        (last_statement (label (named 10 3 (codes "Q")) (colon (at 10 4)) no_labels) (simple (return (at 10 6))) (Some (at 10 12)))))
        (at 11 1) (at 11 5) None;
  } ∷ [];
  main = processes
      (record {
        fair = weak (at 12 1);
        place = at 12 6;
        identity = bare (named 12 14 (codes "Left")) true (at 12 19) (set_of (at 12 23) (more (number 12 24 1) (at 12 25) (last (number 12 27 2))) (at 12 28));
        variables = section (at 13 1) false (last_variable (named 13 10 (codes "m")) (equals (at 13 12) (number 13 14 0)) (Some (by_semicolon (at 13 15))));
        body = begin_end (at 14 1)
            (more_statements (label (named 15 3 (codes "A")) (colon_minus (at 15 4) (at 15 5)) no_labels) (simple (assign (last_assignment (name 15 7 (codes "m")) (at 15 9) (name 15 12 (codes "self"))))) (at 15 16)
            (last_statement (label (named 16 3 (codes "B")) (colon_plus (at 16 4) (at 16 5)) no_labels) (simple (call (at 16 7) (named 16 12 (codes "Add")) (some_arguments (at 16 15) (last (name 16 16 (codes "m"))) (at 16 17)))) (Some (at 16 18))))
            (at 17 1) (at 17 5) None;
      })
      (record {
        fair = weak (at 18 1);
        place = at 18 6;
        identity = bare (named 18 14 (codes "Right")) false (at 18 20) (number 18 22 3);
        variables = section (at 19 1) false (last_variable (named 19 10 (codes "k")) (equals (at 19 12) (number 19 14 1)) (Some (by_semicolon (at 19 15))));
        body = begin_end (at 20 1)
            (last_statement (label (named 21 3 (codes "C")) (colon (at 21 4)) no_labels) (simple (assign (last_assignment (name 21 6 (codes "k")) (at 21 8) (name 21 11 (codes "total"))))) (Some (at 21 16)))
            (at 22 1) (at 22 5) None;
      } ∷ []);
}

abbrev pub adder : Algorithm
adder = algorithm_of adding_text

pub is_spelled : IsSpelled adding_file adding_text (text_of (algorithm_in adding_file))
is_spelled = record {
  is_text = refl;
  syntax = refl;
  good = search;
  told = refl;
  passes = ([], opens adding_text, (adding_text, search, refl, refl), search);
  fine = refl;
  tokens = refl;
  counts = refl;
}

outside : outside_read (walk adding_file) ≡ sequences
unfolding readers_in
outside = refl

pub has : HasOutside (walk adding_file) sequences
has = subst (λ (o : Outside). HasOutside (walk adding_file) o) outside (has_outside (walk adding_file))

-- no label is missing, so none is added where they are forced
pub same_labels : (forced : Bool) → labelled forced adder ≡ adder
same_labels true = refl
same_labels false = refl

of_adder : (forced : Bool) → OfTree nothing sequences (labelled forced adder)
of_adder forced = subst (OfTree nothing sequences) (sym (same_labels forced)) (record { names = refl; labels = refl })

pub right : (forced : Bool) → AnswersChecking forced adding_file None
right forced = nothing_wrong adding_file adding_text (text_of (algorithm_in adding_file)) is_spelled sequences has forced (of_adder forced)

pub short : length adding_file < past_text
short = omega arith

pub computed : IsComputed sequences adder adding
computed = record {
  processes = _;
  constants = record { unset = refl; given = tt; no_other = no_other adding_constants; canonical = all_canonical adding_constants (tt, tt) };
  all = refl;
  first = search;
  later = search;
  other = search;
  starts = refl;
  no_start = refl;
  quiet = refl;
  run = refl;
  ended = search;
  quiet_end = refl;
  done = refl;
  stays = refl;
  apart = refl;
}

pub adding_meets : (forced : Bool) → MeetsPremises forced adding_file adding
adding_meets forced =
    meets forced adding_file adder adder sequences adding (right forced) short (spelled_holds adding_file adding_text (text_of (algorithm_in adding_file)) is_spelled sequences has) has (same_labels forced) computed
