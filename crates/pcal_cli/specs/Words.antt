-- The commands of the program as a function of the words of a command line, and which module each is of.
use Rattle.std.specs.Prelude.{List, [], Option, Some, None, Result, Ok, Err, String, string_bytes, map}
use Rattle.std.specs.declared.alloc.Global.{Global}
use Rattle.std.specs.Vec.Iter.{into_iter_items}
use Rattle.std.specs.declared.vec.IntoIter.{IntoIter}
use Rattle.std.specs.declared.io.Error.{Error}
use Rattle.tla_tree.specs.Tree.{Word}
use Rattle.command_words.specs.Table.{commands}
use Rattle.command_words.specs.Commands.{Command, translates, checks, rewrites, maps, runs, traces, makes, meaning}
use Rattle.make_module.specs.Big.{big}

-- the name of the module that a command reads; one that reads none has no name for it
abbrev pub file_of : Command → Word
file_of (translates file options) = file
file_of (checks file forced) = file
file_of (rewrites file syntax) = file
file_of (maps file forced) = file
file_of (runs file config script options) = file
file_of (traces file config trace options) = file
file_of (makes seed count) = []

abbrev pub file_meant : Option Command → Word
file_meant None = []
file_meant (Some c) = file_of c

-- where the text comes from that a command is of: from a file, or it is this one
pub data Input : Type 0 where
  from_file : Word → Input
  this_text : Word → Input

abbrev pub input_of : Command → Input
input_of (makes seed count) = this_text (big seed count)
input_of c = from_file (file_of c)

abbrev pub words_of : List (String Global) → List Word
words_of ws = map string_bytes ws

-- the command of the words of a command line
unfoldable pub command_in : List (String Global) → Option Command
command_in ws = meaning commands (words_of ws)

-- the words as the system hands them over; none, where one isn't UTF-8
abbrev pub words_given : Result (IntoIter (String Global) Global) Error → List (String Global)
words_given (Ok ws) = into_iter_items ws
words_given (Err e) = []
