-- Why a trace stops before its end, in memory, and what that stands for.
use Rattle.std.specs.Prelude.{Option, Some, None}
use Rattle.run_files.specs.InMemory.{trouble_of}
use Rattle.step_runner.specs.Explained as pure
use Rattle.step_runner.specs.Explained.{untrue, troubled}
use Rattle.explained_traces.specs.declared.explaining.Halt.{Halt}
use Rattle.explained_traces.specs.declared.explaining.Halt.TheVariants as halt

abbrev pub halt_by : Halt → pure.Halt
halt_by (halt.Untrue n) = untrue n
halt_by (halt.Troubled t) = troubled (trouble_of t)

abbrev pub halt_of : Option Halt → Option pure.Halt
halt_of None = None
halt_of (Some h) = Some (halt_by h)
