-- A run of three small files: nothing is wrong with them, their text is computed, and the promise of a run is kept. And two scripts that stop.
use Rattle.std.proofs.Common.{◌≡◌, ◌<◌, pos, true, false, [], ◌∷◌, length, codes, Some, None, refl, subst, arith}
use Rattle.std.specs.Fmt.{digits}
use Rattle.tla_token.specs.Limits.{past_text}
use Rattle.tla_tree.specs.Reader.{readers, readers_in}
use Rattle.tla_tree.specs.Spelling.{last, more, set_of}
use Rattle.tla_value.specs.Outside.{Outside}
use Rattle.tla_value.specs.States.{Entries}
use Rattle.tla_value.specs.Value.{int}
use Rattle.tla_value.specs.ValueSeen.{SpellsFrom}
use Rattle.tla_value.specs.ValueText.{digits as of_digits}
use Rattle.pcal_tree.specs.Algorithm.{Algorithm}
use Rattle.pcal_tree.specs.Grammar.{Text as Spelled, algorithm, to_end, no_define, begin, algorithm_of}
use Rattle.pcal_tree.specs.GrammarP.{simple, last_statement}
use Rattle.pcal_tree.specs.GrammarParts.{by_semicolon, among, section, last_variable, colon, label, no_labels, assign, last_assignment}
use Rattle.pcal_tree.specs.Labelled.{labelled}
use Rattle.pcal_tree.specs.OpenForms.{opens}
use Rattle.pcal_tree.specs.Script.{Turn}
use Rattle.pcal_tree.specs.StepAnswers.{no_label, needs_choice}
use Rattle.module_tree.specs.AlgorithmText.{algorithm_in}
use Rattle.module_tree.specs.TextFront.{Text}
use Rattle.module_tree.specs.Walk.{walk}
use Rattle.module_tree.specs.laws.Outsides.{HasOutside}
use Rattle.module_tree.proofs.SomeOutside.{outside_read, has_outside}
use Rattle.file_answer.specs.Checking.{OfTree}
use Rattle.step_runner.specs.Config.{SpellsConfig}
use Rattle.step_runner.specs.Script.{Script, SpellsScript}
use Rattle.step_runner.proofs.Spelled.{value_here}
use Rattle.translation.specs.Worked.{lines}
use Rattle.translation.proofs.RowsRight.{nothing, text_of, IsSpelled, spelled_holds, nothing_wrong}
use Rattle.translation.proofs.RowsSpelled.{at, named, number, name}
use Rattle.run_answer.specs.Chosen.{Files, Right, has_identifiers, Chosen, IsRun}
use Rattle.run_answer.specs.Promised.{KeepsRun}
use Rattle.run_answer.proofs.KeptRuns.{keeps_run}

-- ---- the module

abbrev source : Text
source =
    lines
    (
    codes "---- MODULE M ----" ∷
    codes "CONSTANT N" ∷
    codes "(*" ∷
    codes "--algorithm A" ∷
    codes "variables x \\in {1, N};" ∷
    codes "begin" ∷
    codes "  L: x := N;" ∷
    codes "end algorithm" ∷
    codes "*)" ∷
    codes "====" ∷
    [])

abbrev spelling : Spelled
spelling = record {
  head = algorithm (at 4 1);
  name = named 4 13 (codes "A");
  around = to_end (at 8 1) (at 8 5);
  variables = section (at 5 1) true (last_variable (named 5 11 (codes "x")) (among (at 5 13) (set_of (at 5 17) (more (number 5 18 1) (at 5 19) (last (name 5 21 (codes "N")))) (at 5 22))) (Some (by_semicolon (at 5 23))));
  define = no_define;
  macros = [];
  procedures = [];
  main = begin (at 6 1) (last_statement (label (named 7 3 (codes "L")) (colon (at 7 4)) no_labels) (simple (assign (last_assignment (name 7 6 (codes "x")) (at 7 8) (name 7 11 (codes "N"))))) (Some (at 7 12)));
}

abbrev typed : Algorithm
typed = algorithm_of spelling

-- CONSTANT N
abbrev with_n : Outside
with_n = record { extended = []; constants = named 2 10 (codes "N") ∷ []; definitions = []; opaque = [] }

is_spelled : IsSpelled source spelling (text_of (algorithm_in source))
is_spelled = record {
  is_text = refl;
  syntax = refl;
  good = search;
  told = refl;
  passes = ([], opens spelling, (spelling, search, refl, refl), search);
  fine = refl;
  tokens = refl;
  counts = refl;
}

outside : outside_read (walk source) ≡ with_n
unfolding readers_in
outside = refl

has : HasOutside (walk source) with_n
has = subst (λ (o : Outside). HasOutside (walk source) o) outside (has_outside (walk source))

of_typed : OfTree nothing with_n (labelled false typed)
unfolding digits
of_typed = record { names = refl; labels = refl }

abbrev right : Right false source
right = record {
  clean = nothing_wrong source spelling (text_of (algorithm_in source)) is_spelled with_n has false of_typed;
  typed = typed;
  holds = spelled_holds source spelling (text_of (algorithm_in source)) is_spelled with_n has;
  outside = with_n;
  has = has;
}

short : length source < past_text
short = omega arith

-- ---- the constants, and scripts

abbrev config : Text
config = codes "N = 2"

abbrev constants : Entries
constants = (codes "N", int (pos 2)) ∷ []

two : SpellsFrom config 4 5 (int (pos 2))
two = value_here config 4 5 1 (int (pos 2)) (omega arith) refl refl refl (search) (search) (of_digits 2, tt, refl, refl, refl)

spells_constants : SpellsConfig with_n config constants
spells_constants = (5, (5, (4, refl, two), refl), refl, refl, refl)

abbrev files : Text → Files
files z = record { source = source; config = config; third = z }

abbrev chosen : (z : Text) (s : Script) → SpellsScript (has_identifiers right) z s → Chosen false (files z)
chosen z s h = record { right = right; constants = constants; spells_constants = spells_constants; script = s; spells_script = h }

abbrev turn : Turn
turn = record { who = None; choices = [] }

-- ---- through to the end

abbrev to_the_end : Text
to_the_end = codes "init 1\nstep :\n"

abbrev two_states : Text
two_states = codes "State 0: initial\n/\\ x = 1\n/\\ pc = \"L\"\nState 1: L at 7:3\n/\\ x = 2\n/\\ pc = \"Done\"\n"

run : IsRun false (files to_the_end) two_states None
unfolding digits
run = record { chosen = chosen to_the_end (record { choices = 1 ∷ []; turns = turn ∷ [] }) (refl, ((4, 4, refl, (refl, refl), refl), tt)); text = refl; stopped = refl }

kept : KeepsRun false (files to_the_end) two_states
kept = keeps_run false (files to_the_end) two_states short run

-- ---- stops

-- without a choice it doesn't start
held_up : IsRun false (files (codes "init\n")) [] (Some (record { step = 0; reply = needs_choice 2 (at 5 11) }))
unfolding digits
held_up = record { chosen = chosen (codes "init\n") (record { choices = []; turns = [] }) (refl, tt); text = refl; stopped = refl }

-- once all is done there is no step
abbrev too_far : Text
too_far = codes "init 1\nstep :\nstep :\n"

all_done : IsRun false (files too_far) two_states (Some (record { step = 2; reply = no_label }))
unfolding digits
all_done = record {
  chosen = chosen too_far (record { choices = 1 ∷ []; turns = turn ∷ turn ∷ [] }) (refl, ((4, 4, refl, (refl, refl), refl), ((4, 4, refl, (refl, refl), refl), tt)));
  text = refl;
  stopped = refl;
}
