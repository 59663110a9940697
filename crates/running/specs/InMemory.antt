-- The files of a run in memory, and why there is none, and what they stand for.
use Rattle.std.specs.Prelude.{Bool}
use Rattle.run_answer.specs.Chosen as pure
use Rattle.run_answer.specs.Chosen.{of_module, of_config, of_third, Refuses}
use Rattle.running.specs.declared.files.Files.{Files}
use Rattle.running.specs.declared.files.Which.{Which}
use Rattle.running.specs.declared.files.Which.TheVariants as which
use Rattle.running.specs.declared.files.NoRun.{NoRun}
use Rattle.running.specs.declared.files.NoRun.TheVariants as norun

abbrev pub files_of : Files → pure.Files
files_of f = record { source = f.source.now; config = f.config.now; third = f.third.now }

abbrev pub which_of : Which → pure.Which
which_of which.Module = of_module
which_of which.Config = of_config
which_of which.Third = of_third

-- why there is no run: a file is refused so; of want of memory nothing is said
abbrev pub IsRefused : Bool → pure.Files → NoRun → Type 0
IsRefused forced f norun.Memory = Unit {0}
IsRefused forced f (norun.Refused w r) = Refuses forced f (which_of w) r
