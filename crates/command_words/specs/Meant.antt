-- The commands in memory, as what their words mean.
use Rattle.std.specs.Prelude.{[]}
use Rattle.clap.specs.Simple.{App, Shape}
use Rattle.pcal_tree.specs.Syntaxes.{syntax_of}
use Rattle.command_words.specs.Commands as pure
use Rattle.command_words.specs.declared.command.Options.{Options}
use Rattle.command_words.specs.declared.command.Command.{Command}
use Rattle.command_words.specs.declared.command.Command.TheVariants as command

-- a command by itself
abbrev pub alone : Shape → App
alone s = record { top = s; subs = [] }

abbrev pub options_of : Options → pure.Options
options_of o = record { forced = o.forced; terminating = o.terminating }

abbrev pub meant : Command → pure.Command
meant (command.Translate file options) = pure.translates file.now (options_of options)
meant (command.Check file forced) = pure.checks file.now forced
meant (command.Rewrite file to) = pure.rewrites file.now (syntax_of to)
meant (command.Map file forced) = pure.maps file.now forced
meant (command.Run file config script options) = pure.runs file.now config.now script.now (options_of options)
meant (command.Trace file config trace options) = pure.traces file.now config.now trace.now (options_of options)
meant (command.Make seed count) = pure.makes seed count
