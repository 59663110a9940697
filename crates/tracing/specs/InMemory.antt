-- Why a trace isn't explained, in memory, and what that stands for.
use Rattle.std.specs.Prelude.{Bool}
use Rattle.run_answer.specs.Chosen.{Files}
use Rattle.trace_answer.specs.Traced.{RefusesTrace}
use Rattle.running.specs.declared.files.NoRun.{NoRun}
use Rattle.running.specs.declared.files.NoRun.TheVariants as norun
use Rattle.running.specs.InMemory.{which_of}

-- a file is refused so; of want of memory nothing is said
abbrev pub IsRefusedTrace : Bool → Files → NoRun → Type 0
IsRefusedTrace forced f norun.Memory = Unit {0}
IsRefusedTrace forced f (norun.Refused w r) = RefusesTrace forced f (which_of w) r
