-- The worked file of a single process whose identifier is a set: nothing is wrong with it, and what is written for it has both sides, by computation.
use Rattle.std.proofs.Common.{◌≡◌, ◌<◌, length, [], Bool, true, false, codes, Some, None, refl, sym, subst, arith}
use Rattle.tla_token.specs.Limits.{past_text}
use Rattle.tla_tree.specs.Reader.{readers, readers_in}
use Rattle.tla_value.specs.Outside.{Outside}
use Rattle.tla_tree.specs.Spelling.{last, no_set, set_of, infix_of, prefix_of}
use Rattle.tla_tree.specs.declared.op.Op.TheVariants.{In, Subset}
use Rattle.pcal_tree.specs.Grammar.{Text, algorithm, to_end, no_define, begin_end, processes, unfair, bare, algorithm_of}
use Rattle.pcal_tree.specs.GrammarP.{simple, last_statement, more_statements}
use Rattle.pcal_tree.specs.GrammarParts.{by_semicolon, equals, no_section, section, last_variable, colon, label, no_labels, assign, last_assignment, await}
use Rattle.pcal_tree.specs.Algorithm.{Algorithm}
use Rattle.pcal_tree.specs.Labelled.{labelled}
use Rattle.pcal_tree.specs.OpenForms.{opens}
use Rattle.module_tree.specs.AlgorithmText.{algorithm_in}
use Rattle.module_tree.specs.Walk.{walk}
use Rattle.module_tree.specs.laws.Outsides.{HasOutside}
use Rattle.module_tree.proofs.SomeOutside.{outside_read, has_outside}
use Rattle.file_answer.specs.Checking.{OfTree, AnswersChecking}
use Rattle.translation.specs.Worked.{MeetsPremises}
use Rattle.translation.specs.WorkedFiles.{picking_file, picking_constants, picking}
use Rattle.translation.proofs.RowsRight.{nothing, text_of, IsSpelled, spelled_holds, nothing_wrong}
use Rattle.translation.proofs.RowsRuns.{no_other, all_canonical}
use Rattle.translation.proofs.RowsShown.{IsComputed, meets}
use Rattle.translation.proofs.RowsSpelled.{at, named, number, name}

abbrev picking_text : Text
picking_text = record {
  head = algorithm (at 3 1);
  name = named 3 13 (codes "Picking");
  around = to_end (at 10 1) (at 10 5);
  variables = section (at 4 1) true (last_variable (named 4 11 (codes "x")) (equals (at 4 13) (set_of (at 4 15) (last (number 4 16 1)) (at 4 17))) (Some (by_semicolon (at 4 18))));
  define = no_define;
  macros = [];
  procedures = [];
  main = processes
      (record {
        fair = unfair;
        place = at 5 1;
        identity = bare (named 5 9 (codes "P")) false (at 5 11) (prefix_of (at 5 13) Subset (set_of (at 5 20) (last (number 5 21 1)) (at 5 22)));
        variables = no_section;
        body = begin_end (at 6 1)
            (more_statements (label (named 7 3 (codes "A")) (colon (at 7 4)) no_labels) (simple (await (at 7 6) (infix_of (name 7 12 (codes "x")) (at 7 14) In (name 7 18 (codes "self"))))) (at 7 22)
            (last_statement no_labels (simple (assign (last_assignment (name 8 6 (codes "x")) (at 8 8) (no_set (at 8 11) (at 8 12))))) (Some (at 8 13))))
            (at 9 1) (at 9 5) None;
      })
      ([]);
}

abbrev picker : Algorithm
picker = algorithm_of picking_text

abbrev nothing_outside : Outside
nothing_outside = record { extended = []; constants = []; definitions = []; opaque = [] }

is_spelled : IsSpelled picking_file picking_text (text_of (algorithm_in picking_file))
is_spelled = record {
  is_text = refl;
  syntax = refl;
  good = search;
  told = refl;
  passes = ([], opens picking_text, (picking_text, search, refl, refl), search);
  fine = refl;
  tokens = refl;
  counts = refl;
}

outside : outside_read (walk picking_file) ≡ nothing_outside
unfolding readers_in
outside = refl

has : HasOutside (walk picking_file) nothing_outside
has = subst (λ (o : Outside). HasOutside (walk picking_file) o) outside (has_outside (walk picking_file))

-- no label is missing, so none is added where they are forced
same_labels : (forced : Bool) → labelled forced picker ≡ picker
same_labels true = refl
same_labels false = refl

of_picker : (forced : Bool) → OfTree nothing nothing_outside (labelled forced picker)
of_picker forced = subst (OfTree nothing nothing_outside) (sym (same_labels forced)) (record { names = refl; labels = refl })

right : (forced : Bool) → AnswersChecking forced picking_file None
right forced = nothing_wrong picking_file picking_text (text_of (algorithm_in picking_file)) is_spelled nothing_outside has forced (of_picker forced)

short : length picking_file < past_text
short = omega arith

computed : IsComputed nothing_outside picker picking
computed = record {
  processes = _;
  constants = record { unset = refl; given = tt; no_other = no_other picking_constants; canonical = all_canonical picking_constants (tt, tt) };
  all = refl;
  first = search;
  later = search;
  other = search;
  starts = refl;
  no_start = refl;
  quiet = refl;
  run = refl;
  ended = search;
  quiet_end = refl;
  done = refl;
  stays = refl;
  apart = refl;
}

pub picking_meets : (forced : Bool) → MeetsPremises forced picking_file picking
picking_meets forced =
    meets forced picking_file picker picker nothing_outside picking (right forced) short (spelled_holds picking_file picking_text (text_of (algorithm_in picking_file)) is_spelled nothing_outside has) has (same_labels forced) computed
