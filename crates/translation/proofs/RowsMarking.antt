-- The worked file of a process set to which a label is added by the option: nothing is wrong with it, and what is written for it has both sides, by computation.
use Rattle.std.proofs.Common.{◌≡◌, ◌<◌, length, [], true, codes, Some, None, refl, subst, arith}
use Rattle.std.specs.Fmt.{digits}
use Rattle.tla_token.specs.Limits.{past_text}
use Rattle.tla_tree.specs.Reader.{readers, readers_in}
use Rattle.tla_value.specs.Outside.{Outside}
use Rattle.tla_tree.specs.Spelling.{last, more, set_of, infix_of}
use Rattle.tla_tree.specs.declared.op.Op.TheVariants.{Equal}
use Rattle.pcal_tree.specs.Grammar.{Text, algorithm, to_end, no_define, begin_end, processes, unfair, bare, algorithm_of}
use Rattle.pcal_tree.specs.GrammarP.{simple, branch, no_else, last_statement, more_statements}
use Rattle.pcal_tree.specs.GrammarParts.{by_semicolon, equals, no_section, section, last_variable, colon, label, no_labels, assign, last_assignment}
use Rattle.pcal_tree.specs.Algorithm.{Algorithm}
use Rattle.pcal_tree.specs.Labelled.{labelled}
use Rattle.pcal_tree.specs.OpenForms.{opens}
use Rattle.module_tree.specs.AlgorithmText.{algorithm_in}
use Rattle.module_tree.specs.Walk.{walk}
use Rattle.module_tree.specs.laws.Outsides.{HasOutside}
use Rattle.module_tree.proofs.SomeOutside.{outside_read, has_outside}
use Rattle.file_answer.specs.Checking.{OfTree, AnswersChecking}
use Rattle.translation.specs.Worked.{MeetsPremises}
use Rattle.translation.specs.WorkedFiles.{marking_file, marking_constants, marking}
use Rattle.translation.proofs.RowsRight.{nothing, text_of, IsSpelled, spelled_holds, nothing_wrong}
use Rattle.translation.proofs.RowsRuns.{no_other, all_canonical}
use Rattle.translation.proofs.RowsShown.{IsComputed, meets}
use Rattle.translation.proofs.RowsSpelled.{at, named, number, name}

abbrev marking_text : Text
marking_text = record {
  head = algorithm (at 3 1);
  name = named 3 13 (codes "Marking");
  around = to_end (at 12 1) (at 12 5);
  variables = section (at 4 1) true (last_variable (named 4 11 (codes "x")) (equals (at 4 13) (number 4 15 0)) (Some (by_semicolon (at 4 16))));
  define = no_define;
  macros = [];
  procedures = [];
  main = processes
      (record {
        fair = unfair;
        place = at 5 1;
        identity = bare (named 5 9 (codes "P")) true (at 5 11) (set_of (at 5 15) (more (number 5 16 1) (at 5 17) (last (number 5 19 2))) (at 5 20));
        variables = no_section;
        body = begin_end (at 6 1)
            (last_statement (label (named 7 3 (codes "A")) (colon (at 7 4)) no_labels) (branch (at 7 6) (infix_of (name 7 9 (codes "x")) (at 7 11) Equal (number 7 13 0)) (at 7 15)
            (more_statements no_labels (simple (assign (last_assignment (name 8 8 (codes "x")) (at 8 10) (name 8 13 (codes "self"))))) (at 8 17)
            (last_statement no_labels (simple (assign (last_assignment (name 9 8 (codes "x")) (at 9 10) (number 9 13 3)))) (Some (at 9 14))))
            no_else (at 10 6) (at 10 10)) (Some (at 10 12)))
            (at 11 1) (at 11 5) None;
      })
      ([]);
}

abbrev typed : Algorithm
typed = algorithm_of marking_text

-- the second assignment has a label
abbrev marker : Algorithm
marker = labelled true typed

abbrev nothing_outside : Outside
nothing_outside = record { extended = []; constants = []; definitions = []; opaque = [] }

is_spelled : IsSpelled marking_file marking_text (text_of (algorithm_in marking_file))
is_spelled = record {
  is_text = refl;
  syntax = refl;
  good = search;
  told = refl;
  passes = ([], opens marking_text, (marking_text, search, refl, refl), search);
  fine = refl;
  tokens = refl;
  counts = refl;
}

outside : outside_read (walk marking_file) ≡ nothing_outside
unfolding readers_in
outside = refl

has : HasOutside (walk marking_file) nothing_outside
has = subst (λ (o : Outside). HasOutside (walk marking_file) o) outside (has_outside (walk marking_file))

of_marker : OfTree nothing nothing_outside marker
unfolding digits
of_marker = record { names = refl; labels = refl }

right : AnswersChecking true marking_file None
right = nothing_wrong marking_file marking_text (text_of (algorithm_in marking_file)) is_spelled nothing_outside has true of_marker

short : length marking_file < past_text
short = omega arith

computed : IsComputed nothing_outside marker marking
unfolding digits
computed = record {
  processes = _;
  constants = record { unset = refl; given = tt; no_other = no_other marking_constants; canonical = all_canonical marking_constants (tt, tt) };
  all = refl;
  first = search;
  later = search;
  other = search;
  starts = refl;
  no_start = refl;
  quiet = refl;
  run = refl;
  ended = search;
  quiet_end = refl;
  done = refl;
  stays = refl;
  apart = refl;
}

pub marking_meets : MeetsPremises true marking_file marking
marking_meets =
    meets true marking_file typed marker nothing_outside marking right short (spelled_holds marking_file marking_text (text_of (algorithm_in marking_file)) is_spelled nothing_outside has) has refl computed
