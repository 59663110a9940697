-- The commands that the program runs, in memory.
use Rattle.std.specs.Prelude.{◌≤◌}
use Rattle.pcal_tree.specs.Syntaxes.{syntax_of}
use Rattle.command_words.specs.Commands.{Command, translates, checks, rewrites, maps, runs, traces, makes}
use Rattle.command_words.specs.Meant.{options_of}
use Rattle.make_module.specs.Big.{big}
use Rattle.pcal_cli.specs.Words.{Input, from_file, this_text}
use Rattle.pcal_cli.specs.declared.job.Job.{Job}
use Rattle.pcal_cli.specs.declared.job.Job.TheVariants as job
use Rattle.pcal_cli.specs.declared.task.Task.{Task}
use Rattle.pcal_cli.specs.declared.task.Task.TheVariants as task
use Rattle.pcal_cli.specs.declared.task.Source.{Source}
use Rattle.pcal_cli.specs.declared.task.Source.TheVariants as source

abbrev pub as_command : Task → Command
as_command (task.Translate file options) = translates file.now (options_of options)
as_command (task.Check file forced) = checks file.now forced
as_command (task.Rewrite file to) = rewrites file.now (syntax_of to)
as_command (task.Map file forced) = maps file.now forced
as_command (task.Make seed count) = makes seed count

abbrev pub as_job : Job → Command
as_job (job.Text t) = as_command t
as_job (job.Run names options) = runs names.source.now names.config.now names.third.now (options_of options)
as_job (job.Trace names options) = traces names.source.now names.config.now names.third.now (options_of options)

-- where a text comes from
abbrev pub as_input : Source → Input
as_input (source.File f) = from_file f.now
as_input (source.Made seed count) = this_text (big seed count)

-- of a module that is made, there are at most so many steps
abbrev pub IsSmall : Task → Type 0
IsSmall (task.Make seed count) = count ≤ 2000
IsSmall t = Unit {0}

-- so it is where a task is one
abbrev pub IsSmallJob : Job → Type 0
IsSmallJob (job.Text t) = IsSmall t
IsSmallJob j = Unit {0}

abbrev pub IsFew : Source → Type 0
IsFew (source.Made seed count) = count ≤ 2000
IsFew s = Unit {0}
