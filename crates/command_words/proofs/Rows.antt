-- What written-out words mean, by computation.
use Rattle.std.proofs.Common.{◌≡◌, true, false, [], ◌∷◌, Some, None, refl, codes}
use Rattle.clap.proofs.OnLiterals.{clap_on_literals}
use Rattle.pcal_tree.specs.Grammar.{p_syntax, c_syntax}
use Rattle.command_words.specs.Table.{commands, translate}
use Rattle.command_words.specs.Commands.{translates, checks, rewrites, maps, runs, traces, makes, meaning}

-- ---- each command

translate_file : meaning commands (codes "pcal" ∷ codes "translate" ∷ codes "M.tla" ∷ []) ≡ Some (translates (codes "M.tla") (record { forced = false; terminating = true }))
unfolding clap_on_literals
translate_file = refl

check_file : meaning commands (codes "pcal" ∷ codes "check" ∷ codes "M.tla" ∷ []) ≡ Some (checks (codes "M.tla") false)
unfolding clap_on_literals
check_file = refl

rewrite_file : meaning commands (codes "pcal" ∷ codes "rewrite" ∷ codes "M.tla" ∷ codes "--to" ∷ codes "c" ∷ []) ≡ Some (rewrites (codes "M.tla") c_syntax)
unfolding clap_on_literals
rewrite_file = refl

map_file : meaning commands (codes "pcal" ∷ codes "map" ∷ codes "M.tla" ∷ []) ≡ Some (maps (codes "M.tla") false)
unfolding clap_on_literals
map_file = refl

run_file : meaning commands (codes "pcal" ∷ codes "run" ∷ codes "M.tla" ∷ codes "C" ∷ codes "S" ∷ []) ≡ Some (runs (codes "M.tla") (codes "C") (codes "S") (record { forced = false; terminating = true }))
unfolding clap_on_literals
run_file = refl

trace_file : meaning commands (codes "pcal" ∷ codes "trace" ∷ codes "M.tla" ∷ codes "C" ∷ codes "T" ∷ []) ≡ Some (traces (codes "M.tla") (codes "C") (codes "T") (record { forced = false; terminating = true }))
unfolding clap_on_literals
trace_file = refl

make_module : meaning commands (codes "pcal" ∷ codes "make" ∷ codes "1" ∷ codes "1" ∷ []) ≡ Some (makes 1 1)
unfolding clap_on_literals
make_module = refl

-- ---- options stand before or after FILE

label_before : meaning commands (codes "pcal" ∷ codes "translate" ∷ codes "--label" ∷ codes "M.tla" ∷ []) ≡ Some (translates (codes "M.tla") (record { forced = true; terminating = true }))
unfolding clap_on_literals
label_before = refl

label_after : meaning commands (codes "pcal" ∷ codes "translate" ∷ codes "M.tla" ∷ codes "--label" ∷ []) ≡ Some (translates (codes "M.tla") (record { forced = true; terminating = true }))
unfolding clap_on_literals
label_after = refl

both_options : meaning commands (codes "pcal" ∷ codes "translate" ∷ codes "--no-terminating" ∷ codes "M.tla" ∷ codes "--label" ∷ []) ≡ Some (translates (codes "M.tla") (record { forced = true; terminating = false }))
unfolding clap_on_literals
both_options = refl

label_of_check : meaning commands (codes "pcal" ∷ codes "check" ∷ codes "--label" ∷ codes "M.tla" ∷ []) ≡ Some (checks (codes "M.tla") true)
unfolding clap_on_literals
label_of_check = refl

label_of_map : meaning commands (codes "pcal" ∷ codes "map" ∷ codes "M.tla" ∷ codes "--label" ∷ []) ≡ Some (maps (codes "M.tla") true)
unfolding clap_on_literals
label_of_map = refl

between_files : meaning commands (codes "pcal" ∷ codes "run" ∷ codes "M.tla" ∷ codes "--label" ∷ codes "C" ∷ codes "--no-terminating" ∷ codes "S" ∷ []) ≡ Some (runs (codes "M.tla") (codes "C") (codes "S") (record { forced = true; terminating = false }))
unfolding clap_on_literals
between_files = refl

options_of_trace : meaning commands (codes "pcal" ∷ codes "trace" ∷ codes "--no-terminating" ∷ codes "M.tla" ∷ codes "C" ∷ codes "T" ∷ codes "--label" ∷ []) ≡ Some (traces (codes "M.tla") (codes "C") (codes "T") (record { forced = true; terminating = false }))
unfolding clap_on_literals
options_of_trace = refl

to_before : meaning commands (codes "pcal" ∷ codes "rewrite" ∷ codes "--to" ∷ codes "p" ∷ codes "M.tla" ∷ []) ≡ Some (rewrites (codes "M.tla") p_syntax)
unfolding clap_on_literals
to_before = refl

to_with_equals : meaning commands (codes "pcal" ∷ codes "rewrite" ∷ codes "M.tla" ∷ codes "--to=p" ∷ []) ≡ Some (rewrites (codes "M.tla") p_syntax)
unfolding clap_on_literals
to_with_equals = refl

-- ---- which words are a FILE

dash_alone : meaning commands (codes "pcal" ∷ codes "translate" ∷ codes "-" ∷ []) ≡ Some (translates (codes "-") (record { forced = false; terminating = true }))
unfolding clap_on_literals
dash_alone = refl

-- behind -- all words are files
behind_dashes : meaning commands (codes "pcal" ∷ codes "translate" ∷ codes "--" ∷ codes "-M.tla" ∷ []) ≡ Some (translates (codes "-M.tla") (record { forced = false; terminating = true }))
unfolding clap_on_literals
behind_dashes = refl

no_option_behind : meaning commands (codes "pcal" ∷ codes "translate" ∷ codes "--" ∷ codes "--label" ∷ []) ≡ Some (translates (codes "--label") (record { forced = false; terminating = true }))
unfolding clap_on_literals
no_option_behind = refl

dashes_are_a_file : meaning commands (codes "pcal" ∷ codes "map" ∷ codes "--label" ∷ codes "--" ∷ codes "--" ∷ []) ≡ Some (maps (codes "--") true)
unfolding clap_on_literals
dashes_are_a_file = refl

-- an empty word is one
empty_word : meaning commands (codes "pcal" ∷ codes "translate" ∷ codes "" ∷ []) ≡ Some (translates (codes "") (record { forced = false; terminating = true }))
unfolding clap_on_literals
empty_word = refl

dashed : meaning commands (codes "pcal" ∷ codes "translate" ∷ codes "-M.tla" ∷ []) ≡ None
unfolding clap_on_literals
dashed = refl

-- ---- no command

no_words : meaning commands (codes "pcal" ∷ []) ≡ None
unfolding clap_on_literals
no_words = refl

no_file : meaning commands (codes "pcal" ∷ codes "translate" ∷ []) ≡ None
unfolding clap_on_literals
no_file = refl

two_files : meaning commands (codes "pcal" ∷ codes "translate" ∷ codes "M.tla" ∷ codes "N.tla" ∷ []) ≡ None
unfolding clap_on_literals
two_files = refl

one_file_less : meaning commands (codes "pcal" ∷ codes "run" ∷ codes "M.tla" ∷ codes "C" ∷ []) ≡ None
unfolding clap_on_literals
one_file_less = refl

unknown_command : meaning commands (codes "pcal" ∷ codes "translat" ∷ codes "M.tla" ∷ []) ≡ None
unfolding clap_on_literals
unknown_command = refl

-- options stand only after the command
option_first : meaning commands (codes "pcal" ∷ codes "--label" ∷ codes "translate" ∷ codes "M.tla" ∷ []) ≡ None
unfolding clap_on_literals
option_first = refl

dashes_first : meaning commands (codes "pcal" ∷ codes "--" ∷ codes "translate" ∷ codes "M.tla" ∷ []) ≡ None
unfolding clap_on_literals
dashes_first = refl

no_help : meaning commands (codes "pcal" ∷ codes "--help" ∷ []) ≡ None
unfolding clap_on_literals
no_help = refl

no_help_command : meaning commands (codes "pcal" ∷ codes "help" ∷ []) ≡ None
unfolding clap_on_literals
no_help_command = refl

no_help_of_command : meaning commands (codes "pcal" ∷ codes "translate" ∷ codes "--help" ∷ []) ≡ None
unfolding clap_on_literals
no_help_of_command = refl

no_short_help : meaning commands (codes "pcal" ∷ codes "translate" ∷ codes "M.tla" ∷ codes "-h" ∷ []) ≡ None
unfolding clap_on_literals
no_short_help = refl

no_version : meaning commands (codes "pcal" ∷ codes "--version" ∷ []) ≡ None
unfolding clap_on_literals
no_version = refl

no_short_version : meaning commands (codes "pcal" ∷ codes "-V" ∷ []) ≡ None
unfolding clap_on_literals
no_short_version = refl

-- ---- options that don't stand so

label_twice : meaning commands (codes "pcal" ∷ codes "translate" ∷ codes "--label" ∷ codes "M.tla" ∷ codes "--label" ∷ []) ≡ None
unfolding clap_on_literals
label_twice = refl

label_with_value : meaning commands (codes "pcal" ∷ codes "translate" ∷ codes "M.tla" ∷ codes "--label=true" ∷ []) ≡ None
unfolding clap_on_literals
label_with_value = refl

-- no abbreviations
label_cut : meaning commands (codes "pcal" ∷ codes "translate" ∷ codes "M.tla" ∷ codes "--lab" ∷ []) ≡ None
unfolding clap_on_literals
label_cut = refl

no_terminating_of_check : meaning commands (codes "pcal" ∷ codes "check" ∷ codes "M.tla" ∷ codes "--no-terminating" ∷ []) ≡ None
unfolding clap_on_literals
no_terminating_of_check = refl

no_terminating_of_map : meaning commands (codes "pcal" ∷ codes "map" ∷ codes "M.tla" ∷ codes "--no-terminating" ∷ []) ≡ None
unfolding clap_on_literals
no_terminating_of_map = refl

label_of_rewrite : meaning commands (codes "pcal" ∷ codes "rewrite" ∷ codes "M.tla" ∷ codes "--to" ∷ codes "p" ∷ codes "--label" ∷ []) ≡ None
unfolding clap_on_literals
label_of_rewrite = refl

label_of_make : meaning commands (codes "pcal" ∷ codes "make" ∷ codes "1" ∷ codes "1" ∷ codes "--label" ∷ []) ≡ None
unfolding clap_on_literals
label_of_make = refl

to_missing : meaning commands (codes "pcal" ∷ codes "rewrite" ∷ codes "M.tla" ∷ []) ≡ None
unfolding clap_on_literals
to_missing = refl

to_without_value : meaning commands (codes "pcal" ∷ codes "rewrite" ∷ codes "M.tla" ∷ codes "--to" ∷ []) ≡ None
unfolding clap_on_literals
to_without_value = refl

to_empty : meaning commands (codes "pcal" ∷ codes "rewrite" ∷ codes "M.tla" ∷ codes "--to=" ∷ []) ≡ None
unfolding clap_on_literals
to_empty = refl

to_twice : meaning commands (codes "pcal" ∷ codes "rewrite" ∷ codes "M.tla" ∷ codes "--to" ∷ codes "p" ∷ codes "--to" ∷ codes "p" ∷ []) ≡ None
unfolding clap_on_literals
to_twice = refl

to_other : meaning commands (codes "pcal" ∷ codes "rewrite" ∷ codes "M.tla" ∷ codes "--to" ∷ codes "P" ∷ []) ≡ None
unfolding clap_on_literals
to_other = refl

to_cut : meaning commands (codes "pcal" ∷ codes "rewrite" ∷ codes "M.tla" ∷ codes "--t" ∷ codes "p" ∷ []) ≡ None
unfolding clap_on_literals
to_cut = refl

to_behind_dashes : meaning commands (codes "pcal" ∷ codes "rewrite" ∷ codes "M.tla" ∷ codes "--to" ∷ codes "--" ∷ codes "p" ∷ []) ≡ None
unfolding clap_on_literals
to_behind_dashes = refl

-- ---- numbers

largest : meaning commands (codes "pcal" ∷ codes "make" ∷ codes "4294967295" ∷ codes "2000" ∷ []) ≡ Some (makes 4294967295 2000)
unfolding clap_on_literals
largest = refl

seed_past : meaning commands (codes "pcal" ∷ codes "make" ∷ codes "4294967296" ∷ codes "1" ∷ []) ≡ None
unfolding clap_on_literals
seed_past = refl

seed_zero : meaning commands (codes "pcal" ∷ codes "make" ∷ codes "0" ∷ codes "1" ∷ []) ≡ Some (makes 0 1)
unfolding clap_on_literals
seed_zero = refl

count_zero : meaning commands (codes "pcal" ∷ codes "make" ∷ codes "1" ∷ codes "0" ∷ []) ≡ None
unfolding clap_on_literals
count_zero = refl

count_past : meaning commands (codes "pcal" ∷ codes "make" ∷ codes "1" ∷ codes "2001" ∷ []) ≡ None
unfolding clap_on_literals
count_past = refl

leading_zero : meaning commands (codes "pcal" ∷ codes "make" ∷ codes "01" ∷ codes "1" ∷ []) ≡ None
unfolding clap_on_literals
leading_zero = refl

two_zeros : meaning commands (codes "pcal" ∷ codes "make" ∷ codes "00" ∷ codes "1" ∷ []) ≡ None
unfolding clap_on_literals
two_zeros = refl

plus : meaning commands (codes "pcal" ∷ codes "make" ∷ codes "+1" ∷ codes "1" ∷ []) ≡ None
unfolding clap_on_literals
plus = refl

minus : meaning commands (codes "pcal" ∷ codes "make" ∷ codes "-1" ∷ codes "1" ∷ []) ≡ None
unfolding clap_on_literals
minus = refl

minus_behind_dashes : meaning commands (codes "pcal" ∷ codes "make" ∷ codes "--" ∷ codes "-1" ∷ codes "1" ∷ []) ≡ None
unfolding clap_on_literals
minus_behind_dashes = refl

no_digits : meaning commands (codes "pcal" ∷ codes "make" ∷ codes "" ∷ codes "1" ∷ []) ≡ None
unfolding clap_on_literals
no_digits = refl

letters : meaning commands (codes "pcal" ∷ codes "make" ∷ codes "1a" ∷ codes "1" ∷ []) ≡ None
unfolding clap_on_literals
letters = refl

no_count : meaning commands (codes "pcal" ∷ codes "make" ∷ codes "1" ∷ []) ≡ None
unfolding clap_on_literals
no_count = refl

-- ---- a table of fewer commands

only_translate : meaning (translate ∷ []) (codes "pcal" ∷ codes "check" ∷ codes "M.tla" ∷ []) ≡ None
unfolding clap_on_literals
only_translate = refl
