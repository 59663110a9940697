-- What is read beside a module whose trace is explained, and how one of its files is refused.
use Rattle.std.specs.Prelude.{List}
use Rattle.tla_tree.specs.Tree.{Tree, Word}
use Rattle.tla_tree.specs.Pool.{Keeps}
use Rattle.tla_value.specs.States.{Entries}
use Rattle.pcal_tree.specs.InMemory.{algorithm_at}
use Rattle.pcal_tree.specs.Variables.{vars}
use Rattle.action_builder.specs.WrittenNames.{with_names}
use Rattle.module_outside.specs.WholeAt.{outside_at}
use Rattle.checking.specs.declared.check.Checked.{Checked}
use Rattle.step_runner.specs.Config.{SpellsConfig, ConfigOffends}
use Rattle.step_runner.specs.Trace.{SpellsTrace, TraceOffends}
use Rattle.running.specs.GroundsOf.{AreGrounds}
use Rattle.running.specs.declared.files.Files.{Files}
use Rattle.running.specs.declared.files.Which.TheVariants as which
use Rattle.running.specs.declared.files.NoRun.{NoRun}
use Rattle.running.specs.declared.files.NoRun.TheVariants as norun
use Rattle.running.specs.Ready.{program_read}
use Rattle.tracing.specs.declared.beside.ReadBeside.{ReadBeside}

-- the variables of the translation of a checked algorithm, for each of which a state has a value
abbrev pub variables_read : List Tree → Checked → List Word
variables_read ts c = vars (with_names (outside_at ts c.outside) (algorithm_at ts c.algorithm))

-- beside this algorithm the files spell these constants and this trace; what a run of it stands on was made as the pool grew
pub record IsReadBeside (ts us : List Tree) (c : Checked) (f : Files) (b : ReadBeside) : Type 0 where
  pub constants : SpellsConfig (outside_at ts c.outside) f.config.now b.constants
  pub trace : SpellsTrace (variables_read ts c) f.third.now b.trace.items
  pub kept : Keeps ts us
  pub made : (es : Entries) → AreGrounds us b.made (program_read us c es)

-- why there is none: the constants are refused so, or, where they aren't, the trace is; the module isn't read here
abbrev pub IsRefusedBeside : List Tree → Checked → Files → NoRun → Type 0
IsRefusedBeside ts c f norun.Memory = Unit {0}
IsRefusedBeside ts c f (norun.Refused which.Module r) = ⊥
IsRefusedBeside ts c f (norun.Refused which.Config r) = ConfigOffends (outside_at ts c.outside) f.config.now r
IsRefusedBeside ts c f (norun.Refused which.Third r) =
    (es : Entries) × SpellsConfig (outside_at ts c.outside) f.config.now es × TraceOffends (variables_read ts c) f.third.now r
