-- What explaining a trace gives, from a program in memory and from what was read.
use Rattle.std.specs.Prelude.{◌≡◌, List, map}
use Rattle.std.specs.List.{AllByRecursion}
use Rattle.tla_value.specs.States.{Entries}
use Rattle.pcal_tree.specs.Program.{Program}
use Rattle.pcal_tree.specs.Variables.{vars}
use Rattle.module_tree.specs.Module.{Module}
use Rattle.step_moves.specs.declared.program.Program as code
use Rattle.step_moves.specs.Programs.{program_at}
use Rattle.step_runner.specs.Explained.{state_of, explained}
use Rattle.step_runner.specs.Shown.{trace_text}
use Rattle.step_moves.specs.StatesOf.{HasJust}
use Rattle.running.specs.declared.made.Grounds.{Grounds}
use Rattle.running.specs.Ready.{CanFollow}
use Rattle.written_traces.specs.WrittenTraces.{explained_once}
use Rattle.explained_traces.specs.declared.explaining.Explained.{Explained}
use Rattle.explained_traces.specs.Halts.{halt_of}

-- it is what is shown of a trace of this program, beside this module
pub record IsExplained (P : Program) (m : Module) (trace : List Entries) (e : Explained) : Type 0 where
  pub text : e.text.items ≡ trace_text P m P.constants (explained P m P.constants (map state_of trace)).states
  pub halt : halt_of e.halt ≡ (explained P m P.constants (map state_of trace)).halt

-- ---- a program in memory

-- it is what is shown of a trace by the written names
pub record IsExplainedOnce (p : code.Program) (m : Module) (trace : List Entries) (e : Explained) : Type 0 where
  pub text : e.text.items ≡ trace_text (program_at p) m (program_at p).constants (explained_once (program_at p) m (program_at p).constants (map state_of trace)).states
  pub halt : halt_of e.halt ≡ (explained_once (program_at p) m (program_at p).constants (map state_of trace)).halt

-- from it, and from what was made of it, this trace can be explained
pub record CanExplain (p : code.Program) (k : Grounds) (trace : List Entries) : Type 0 where
  pub follow : CanFollow p k
  pub states : AllByRecursion (HasJust (vars (program_at p))) trace
