-- The table of commands: the words that each takes.
use Rattle.std.specs.Prelude.{true, List, [], ◌∷◌, fold, codes, Some}
use Rattle.clap.specs.Walk.{Rule, Text}
use Rattle.clap.specs.Simple.{App, Shape, new_app, new_rule, new_shape, with_subcommand}
use Rattle.clap.specs.declared.builder.action.ArgAction.TheVariants.{SetTrue}

-- a word that must be there
abbrev pub word : Text → Rule
word id = record (new_rule id) { required = true }

-- --name, which takes no value
abbrev pub flag : Text → Rule
flag id = record (new_rule id) { long = Some id; action = Some SetTrue }

-- --name value, or --name=value, which must be there
abbrev pub option : Text → Rule
option id = record (new_rule id) { long = Some id; required = true }

abbrev pub file : Rule
file = word (codes "FILE")

abbrev pub label : Rule
label = flag (codes "label")

abbrev pub no_terminating : Rule
no_terminating = flag (codes "no-terminating")

-- a command; nothing in it answers with help or a version
abbrev pub command : Text → List Rule → Shape
command name rules = record (new_shape name) { rules = rules; disable_help_flag = true; disable_version_flag = true }

abbrev pub translate : Shape
translate = command (codes "translate") (file ∷ label ∷ no_terminating ∷ [])

abbrev pub check : Shape
check = command (codes "check") (file ∷ label ∷ [])

abbrev pub rewrite : Shape
rewrite = command (codes "rewrite") (file ∷ option (codes "to") ∷ [])

abbrev pub map_file : Shape
map_file = command (codes "map") (file ∷ label ∷ [])

abbrev pub run : Shape
run = command (codes "run") (file ∷ word (codes "CONFIG") ∷ word (codes "SCRIPT") ∷ label ∷ no_terminating ∷ [])

abbrev pub trace : Shape
trace = command (codes "trace") (file ∷ word (codes "CONFIG") ∷ word (codes "TRACE") ∷ label ∷ no_terminating ∷ [])

abbrev pub make : Shape
make = command (codes "make") (word (codes "SEED") ∷ word (codes "COUNT") ∷ [])

-- all commands
abbrev pub commands : List Shape
commands = translate ∷ check ∷ rewrite ∷ map_file ∷ run ∷ trace ∷ make ∷ []

-- the program before its commands: one must follow, and none is called help
abbrev pub program : App
program = record (new_app (codes "pcal")) {
  top = record (new_shape (codes "pcal")) { disable_help_flag = true; disable_help_subcommand = true; disable_version_flag = true; subcommand_required = true };
}

abbrev pub table : List Shape → App
table cs = fold with_subcommand program cs
