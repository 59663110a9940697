-- Traces of a small module: one that is shown whole, of which the promise is kept, two that stop, and one that is refused.
use Rattle.std.proofs.Common.{◌≡◌, ◌<◌, ℕ, pos, Bool, true, false, List, [], ◌∷◌, length, codes, Some, None, refl, subst, arith, inr}
use Rattle.std.specs.Fmt.{digits}
use Rattle.tla_token.specs.Limits.{past_text}
use Rattle.tla_token.specs.declared.rule.Rule.TheVariants.{BadLine}
use Rattle.tla_tree.specs.Reader.{readers, readers_in}
use Rattle.tla_tree.specs.Spelling.{last, more, set_of}
use Rattle.tla_tree.specs.Tree.{Word}
use Rattle.tla_value.specs.Outside.{Outside}
use Rattle.tla_value.specs.States.{Entries}
use Rattle.tla_value.specs.Value.{Value, int, text}
use Rattle.tla_value.specs.ValueSeen.{SpellsFrom}
use Rattle.tla_value.specs.ValueText.{digits as of_digits, quoted}
use Rattle.pcal_tree.specs.Algorithm.{Algorithm}
use Rattle.pcal_tree.specs.Grammar.{Text as Spelled, algorithm, to_end, no_define, begin, algorithm_of}
use Rattle.pcal_tree.specs.GrammarP.{simple, last_statement}
use Rattle.pcal_tree.specs.GrammarParts.{by_semicolon, among, section, last_variable, colon, label, no_labels, assign, last_assignment}
use Rattle.pcal_tree.specs.Labelled.{labelled}
use Rattle.pcal_tree.specs.OpenForms.{opens}
use Rattle.module_tree.specs.AlgorithmText.{algorithm_in}
use Rattle.module_tree.specs.TextFront.{Text}
use Rattle.module_tree.specs.Walk.{walk}
use Rattle.module_tree.specs.laws.Outsides.{HasOutside}
use Rattle.module_tree.proofs.SomeOutside.{outside_read, has_outside}
use Rattle.promise.specs.Options.{Options}
use Rattle.file_answer.specs.Checking.{OfTree}
use Rattle.step_runner.specs.Config.{SpellsConfig}
use Rattle.step_runner.specs.Explained.{untrue}
use Rattle.step_runner.specs.Items.{SpellsValues}
use Rattle.step_runner.specs.Trace.{SpellsTrace}
use Rattle.step_runner.proofs.Spelled.{value_here}
use Rattle.translation.specs.Worked.{lines}
use Rattle.translation.proofs.RowsRight.{nothing, text_of, IsSpelled, spelled_holds, nothing_wrong}
use Rattle.translation.proofs.RowsSpelled.{at, named, number, name}
use Rattle.run_answer.specs.Chosen.{Files, of_third, Right}
use Rattle.trace_answer.specs.Traced.{variables_of, RefusesTrace, Given, IsTrace}
use Rattle.trace_answer.specs.Promised.{KeepsTrace}
use Rattle.trace_answer.proofs.KeptTraces.{keeps_trace}

-- ---- the module

abbrev source : Text
source =
    lines
    (
    codes "---- MODULE M ----" ∷
    codes "CONSTANT N" ∷
    codes "(*" ∷
    codes "--algorithm A" ∷
    codes "variables x \\in {1, N};" ∷
    codes "begin" ∷
    codes "  L: x := N;" ∷
    codes "end algorithm" ∷
    codes "*)" ∷
    codes "====" ∷
    [])

abbrev spelling : Spelled
spelling = record {
  head = algorithm (at 4 1);
  name = named 4 13 (codes "A");
  around = to_end (at 8 1) (at 8 5);
  variables = section (at 5 1) true (last_variable (named 5 11 (codes "x")) (among (at 5 13) (set_of (at 5 17) (more (number 5 18 1) (at 5 19) (last (name 5 21 (codes "N")))) (at 5 22))) (Some (by_semicolon (at 5 23))));
  define = no_define;
  macros = [];
  procedures = [];
  main = begin (at 6 1) (last_statement (label (named 7 3 (codes "L")) (colon (at 7 4)) no_labels) (simple (assign (last_assignment (name 7 6 (codes "x")) (at 7 8) (name 7 11 (codes "N"))))) (Some (at 7 12)));
}

abbrev typed : Algorithm
typed = algorithm_of spelling

-- CONSTANT N
abbrev with_n : Outside
with_n = record { extended = []; constants = named 2 10 (codes "N") ∷ []; definitions = []; opaque = [] }

is_spelled : IsSpelled source spelling (text_of (algorithm_in source))
is_spelled = record {
  is_text = refl;
  syntax = refl;
  good = search;
  told = refl;
  passes = ([], opens spelling, (spelling, search, refl, refl), search);
  fine = refl;
  tokens = refl;
  counts = refl;
}

outside : outside_read (walk source) ≡ with_n
unfolding readers_in
outside = refl

has : HasOutside (walk source) with_n
has = subst (λ (o : Outside). HasOutside (walk source) o) outside (has_outside (walk source))

of_typed : OfTree nothing with_n (labelled false typed)
unfolding digits
of_typed = record { names = refl; labels = refl }

abbrev right : Right false source
right = record {
  clean = nothing_wrong source spelling (text_of (algorithm_in source)) is_spelled with_n has false of_typed;
  typed = typed;
  holds = spelled_holds source spelling (text_of (algorithm_in source)) is_spelled with_n has;
  outside = with_n;
  has = has;
}

short : length source < past_text
short = omega arith

-- ---- the constants

abbrev config : Text
config = codes "N = 2"

abbrev an_int : ℕ → Value
an_int k = int (pos k)

abbrev constants : Entries
constants = (codes "N", an_int 2) ∷ []

two : SpellsFrom config 4 5 (an_int 2)
two = value_here config 4 5 1 (an_int 2) (omega arith) refl refl refl (search) (search) (of_digits 2, tt, refl, refl, refl)

spells_constants : SpellsConfig with_n config constants
spells_constants = (5, (5, (4, refl, two), refl), refl, refl, refl)

-- ---- states

abbrev names : List Word
names = codes "x" ∷ codes "pc" ∷ []

abbrev values : ℕ → Text → Entries
values k l = (codes "x", an_int k) ∷ (codes "pc", text l) ∷ []

abbrev first : Text
first = codes "/\\ x = 1\n/\\ pc = \"L\"\n"

abbrev second : Text
second = codes "/\\ x = 2\n/\\ pc = \"Done\"\n"

one_first : SpellsFrom first 7 8 (an_int 1)
one_first = value_here first 7 8 1 (an_int 1) (omega arith) refl refl refl (search) (search) (of_digits 1, tt, refl, refl, refl)

label_first : SpellsFrom first 17 20 (text (codes "L"))
label_first = value_here first 17 20 1 (text (codes "L")) (omega arith) refl refl refl (search) (search) (quoted (codes "L"), tt, tt, refl, refl)

two_second : SpellsFrom second 7 8 (an_int 2)
two_second = value_here second 7 8 1 (an_int 2) (omega arith) refl refl refl (search) (search) (of_digits 2, tt, refl, refl, refl)

done_second : SpellsFrom second 17 23 (text (codes "Done"))
done_second = value_here second 17 23 1 (text (codes "Done")) (omega arith) refl refl refl (search) (search) (quoted (codes "Done"), tt, tt, refl, refl)

is_first : SpellsValues true names first (values 1 (codes "L"))
is_first = (20, (8, (7, refl, one_first), (20, (17, refl, label_first), refl)), refl, refl, refl)

is_second : SpellsValues true names second (values 2 (codes "Done"))
is_second = (23, (8, (7, refl, two_second), (23, (17, refl, done_second), refl)), refl, refl, refl)

-- ---- traces

abbrev files : Text → Files
files z = record { source = source; config = config; third = z }

abbrev given : (z : Text) (ts : List Entries) → SpellsTrace (variables_of right) z ts → Given false (files z)
given z ts h = record { right = right; constants = constants; spells_constants = spells_constants; trace = ts; spells_trace = h }

abbrev options : Bool → Options
options b = record { label = false; no_terminating = b }

abbrev two_states : Text
two_states = codes "State 0\n/\\ x = 1\n/\\ pc = \"L\"\nState 1\n/\\ x = 2\n/\\ pc = \"Done\"\n"

abbrev of_two : Given false (files two_states)
of_two = given two_states (values 1 (codes "L") ∷ values 2 (codes "Done") ∷ []) (refl, tt, (is_first, (is_second, tt)))

abbrev shown_two : Text
shown_two = codes "State 0: initial\n/\\ x = 1\n/\\ pc = \"L\"\nState 1: L at 7:3\n/\\ x = 2\n/\\ pc = \"Done\"\n"

whole : IsTrace (options false) (files two_states) shown_two None
unfolding digits
whole = record { given = of_two; title = codes "M"; text = refl; halted = refl }

kept : KeepsTrace (options false) (files two_states) shown_two
kept = keeps_trace (options false) (files two_states) shown_two short whole

-- once all is done nothing changes, where the translation has that; else it is no step
abbrev three_states : Text
three_states = codes "State 0\n/\\ x = 1\n/\\ pc = \"L\"\nState 1\n/\\ x = 2\n/\\ pc = \"Done\"\nState 2\n/\\ x = 2\n/\\ pc = \"Done\"\n"

abbrev of_three : Given false (files three_states)
of_three = given three_states (values 1 (codes "L") ∷ values 2 (codes "Done") ∷ values 2 (codes "Done") ∷ []) (refl, tt, (is_first, (is_second, (is_second, tt))))

abbrev shown_three : Text
shown_three = codes "State 0: initial\n/\\ x = 1\n/\\ pc = \"L\"\nState 1: L at 7:3\n/\\ x = 2\n/\\ pc = \"Done\"\nState 2: Terminating\n/\\ x = 2\n/\\ pc = \"Done\"\n"

stutters : IsTrace (options false) (files three_states) shown_three None
unfolding digits
stutters = record { given = of_three; title = codes "M"; text = refl; halted = refl }

no_step : IsTrace (options true) (files three_states) shown_two (Some (untrue 2))
unfolding digits
no_step = record { given = of_three; title = codes "M"; text = refl; halted = refl }

-- pc is at no beginning
abbrev last_state : Text
last_state = codes "State 0\n/\\ x = 2\n/\\ pc = \"Done\"\n"

not_initial : IsTrace (options false) (files last_state) [] (Some (untrue 0))
unfolding digits
not_initial = record { given = given last_state (values 2 (codes "Done") ∷ []) (refl, tt, (is_second, tt)); title = codes "M"; text = refl; halted = refl }

-- without a state, at the end
no_state : RefusesTrace false (files (codes "\\* none\n")) of_third (record { rule = BadLine; place = at 2 1 })
no_state = (right, constants, spells_constants, (8, inr (refl, refl), refl))
