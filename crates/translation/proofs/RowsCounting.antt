-- The worked file of one body without labels: nothing is wrong with it, and what is written for it has both sides, by computation.
use Rattle.std.proofs.Common.{◌≡◌, ◌<◌, length, [], ◌∷◌, Bool, true, false, codes, Some, None, refl, sym, subst, arith}
use Rattle.std.specs.Fmt.{digits}
use Rattle.tla_token.specs.Limits.{past_text}
use Rattle.tla_tree.specs.Reader.{readers, readers_in}
use Rattle.tla_value.specs.Outside.{Outside}
use Rattle.tla_tree.specs.Spelling.{last, infix_of}
use Rattle.tla_tree.specs.declared.op.Op.TheVariants.{Plus, Minus, Greater}
use Rattle.pcal_tree.specs.Grammar.{Text, algorithm, to_end, define_end, begin_end, begin, algorithm_of}
use Rattle.pcal_tree.specs.GrammarP.{simple, branch, no_else, while, last_statement, more_statements}
use Rattle.pcal_tree.specs.GrammarParts.{by_semicolon, by_comma, equals, section, variable, last_variable, some_names, last_name, plain, last_definition, some_arguments, no_labels, assign, last_assignment, macro}
use Rattle.pcal_tree.specs.Algorithm.{Algorithm}
use Rattle.pcal_tree.specs.Labelled.{labelled}
use Rattle.pcal_tree.specs.OpenForms.{opens}
use Rattle.module_tree.specs.AlgorithmText.{algorithm_in}
use Rattle.module_tree.specs.Walk.{walk}
use Rattle.module_tree.specs.laws.Outsides.{HasOutside}
use Rattle.module_tree.proofs.SomeOutside.{outside_read, has_outside}
use Rattle.file_answer.specs.Checking.{OfTree, AnswersChecking}
use Rattle.translation.specs.Worked.{MeetsPremises}
use Rattle.translation.specs.WorkedFiles.{counting_file, counting_constants, counting}
use Rattle.translation.proofs.RowsRight.{nothing, text_of, IsSpelled, spelled_holds, nothing_wrong}
use Rattle.translation.proofs.RowsRuns.{no_other, all_canonical}
use Rattle.translation.proofs.RowsShown.{IsComputed, meets}
use Rattle.translation.proofs.RowsSpelled.{at, named, number, name}

abbrev counting_text : Text
counting_text = record {
  head = algorithm (at 5 1);
  name = named 5 13 (codes "Counting");
  around = to_end (at 21 1) (at 21 5);
  variables = section (at 6 1) true (variable (named 6 11 (codes "x")) (equals (at 6 13) (name 6 15 (codes "Most"))) (by_comma (at 6 19)) (last_variable (named 6 21 (codes "y")) (equals (at 6 23) (number 6 25 0)) (Some (by_semicolon (at 6 26)))));
  define = define_end (at 7 1) (last_definition (plain (named 8 3 (codes "more"))) (at 8 8) (infix_of (name 8 11 (codes "x")) (at 8 13) Greater (number 8 15 0))) (at 9 1) (at 9 5) None;
  macros = record {
    place = at 10 1;
    name = named 10 7 (codes "take");
    parameters = some_names (at 10 11) (last_name (named 10 12 (codes "v"))) (at 10 13);
    body = begin_end (at 11 1)
        (last_statement no_labels (simple (assign (last_assignment (name 12 3 (codes "v")) (at 12 5) (infix_of (name 12 8 (codes "v")) (at 12 10) Minus (number 12 12 1))))) (Some (at 12 13)))
        (at 13 1) (at 13 5) None;
  } ∷ [];
  procedures = [];
  main = begin (at 14 1)
      (last_statement no_labels (branch (at 15 3) (name 15 6 (codes "more")) (at 15 11)
      (last_statement no_labels (while (at 16 5) (name 16 11 (codes "more")) (at 16 16)
      (more_statements no_labels (simple (macro (named 17 7 (codes "take")) (some_arguments (at 17 11) (last (name 17 12 (codes "x"))) (at 17 13)))) (at 17 14)
      (last_statement no_labels (simple (assign (last_assignment (name 18 7 (codes "y")) (at 18 9) (infix_of (name 18 12 (codes "y")) (at 18 14) Plus (number 18 16 1))))) (Some (at 18 17))))
      (at 19 5) (at 19 9)) (Some (at 19 14)))
      no_else (at 20 3) (at 20 7)) (Some (at 20 9)));
}

abbrev typed : Algorithm
typed = algorithm_of counting_text

-- labels are added before the if and before the loop in it
abbrev counter : Algorithm
counter = labelled false typed

-- CONSTANT Most
abbrev with_most : Outside
with_most = record { extended = codes "Integers" ∷ []; constants = named 3 10 (codes "Most") ∷ []; definitions = []; opaque = [] }

is_spelled : IsSpelled counting_file counting_text (text_of (algorithm_in counting_file))
is_spelled = record {
  is_text = refl;
  syntax = refl;
  good = search;
  told = refl;
  passes = ([], opens counting_text, (counting_text, search, refl, refl), search);
  fine = refl;
  tokens = refl;
  counts = refl;
}

outside : outside_read (walk counting_file) ≡ with_most
unfolding readers_in
outside = refl

has : HasOutside (walk counting_file) with_most
has = subst (λ (o : Outside). HasOutside (walk counting_file) o) outside (has_outside (walk counting_file))

-- the same are added where they are forced
same_labels : (forced : Bool) → labelled forced typed ≡ counter
same_labels true = refl
same_labels false = refl

of_counter : (forced : Bool) → OfTree nothing with_most (labelled forced typed)
unfolding digits
of_counter forced = subst (OfTree nothing with_most) (sym (same_labels forced)) (record { names = refl; labels = refl })

right : (forced : Bool) → AnswersChecking forced counting_file None
right forced = nothing_wrong counting_file counting_text (text_of (algorithm_in counting_file)) is_spelled with_most has forced (of_counter forced)

short : length counting_file < past_text
short = omega arith

computed : IsComputed with_most counter counting
unfolding digits
computed = record {
  processes = _;
  constants = record { unset = refl; given = (refl, tt); no_other = no_other counting_constants; canonical = all_canonical counting_constants (tt, (tt, tt)) };
  all = refl;
  first = search;
  later = search;
  other = search;
  starts = refl;
  no_start = refl;
  quiet = refl;
  run = refl;
  ended = search;
  quiet_end = refl;
  done = refl;
  stays = refl;
  apart = refl;
}

pub counting_meets : (forced : Bool) → MeetsPremises forced counting_file counting
counting_meets forced =
    meets forced counting_file typed counter with_most counting (right forced) short (spelled_holds counting_file counting_text (text_of (algorithm_in counting_file)) is_spelled with_most has) has (same_labels forced) computed
