-- What is answered to a module, a file of constants and a trace: which of them is refused, and how; else what comes of explaining the trace
-- ("Specifying Systems", section 2.3, behaviours; one order of refusals: the module, then the constants, then the trace).
use Rattle.std.specs.Prelude.{◌≡◌, Bool, List, map, Option}
use Rattle.tla_token.specs.declared.rule.Refusal.{Refusal}
use Rattle.tla_tree.specs.Tree.{Word}
use Rattle.tla_value.specs.Limits.{bounded}
use Rattle.tla_value.specs.States.{Entries}
use Rattle.pcal_tree.specs.Program.{Program}
use Rattle.pcal_tree.specs.Programs.{program_in}
use Rattle.pcal_tree.specs.Scope.{State}
use Rattle.pcal_tree.specs.Variables.{vars}
use Rattle.module_tree.specs.Module.{Module}
use Rattle.module_tree.specs.TextFront.{Text}
use Rattle.action_builder.specs.WrittenNames.{with_names}
use Rattle.promise.specs.Options.{Options}
use Rattle.translation.specs.Region.{written_module}
use Rattle.step_runner.specs.Config.{SpellsConfig, constants_of}
use Rattle.step_runner.specs.Explained.{state_of, Halt, Explained, explained}
use Rattle.step_runner.specs.Shown.{trace_text}
use Rattle.step_runner.specs.Trace.{SpellsTrace, TraceOffends}
use Rattle.run_answer.specs.Chosen.{Files, Which, of_module, of_config, of_third, Right, algorithm_in, Refuses}

-- the variables of the translation, for each of which a state has a value
abbrev pub variables_of : {forced : Bool} {x : Text} → Right forced x → List Word
variables_of m = vars (with_names m.outside (algorithm_in m))

-- ---- refusals

-- this file is refused so, and none before it is; the third file is the trace
abbrev pub RefusesTrace : Bool → Files → Which → Refusal → Type 0
RefusesTrace forced f of_module r = Refuses forced f of_module r
RefusesTrace forced f of_config r = Refuses forced f of_config r
RefusesTrace forced f of_third r =
    (m : Right forced f.source) × (es : Entries) × SpellsConfig m.outside f.config es × TraceOffends (variables_of m) f.third r

-- ---- traces

-- nothing is wrong with the files, and they spell this
pub record Given (forced : Bool) (f : Files) : Type 0 where
  pub right : Right forced f.source
  pub constants : Entries
  pub spells_constants : SpellsConfig right.outside f.config constants
  pub trace : List Entries
  pub spells_trace : SpellsTrace (variables_of right) f.third trace

-- the algorithm within the limits of a run
abbrev pub traced_program : {forced : Bool} {f : Files} → Given forced f → Program
traced_program c = program_in bounded c.right.outside (algorithm_in c.right) (constants_of c.constants)

abbrev pub states_in : {forced : Bool} {f : Files} → Given forced f → List State
states_in c = map state_of c.trace

-- what is written for the module by `translate`, with or without the end that stutters
abbrev pub module_for : {forced : Bool} {f : Files} → Bool → Word → Given forced f → Module
module_for no_terminating title c = written_module no_terminating title c.right.outside (algorithm_in c.right)

abbrev pub explained_of : {forced : Bool} {f : Files} → Bool → Word → Given forced f → Explained
explained_of no_terminating title c = explained (traced_program c) (module_for no_terminating title c) (constants_of c.constants) (states_in c)

-- the text w is that of the states up to the first that is no step, or that trouble keeps from being told, and this is why it stops there. The
-- module's name is any: truth doesn't rest on it.
pub record IsTrace (options : Options) (f : Files) (w : Text) (halt : Option Halt) : Type 0 where
  pub given : Given options.label f
  pub title : Word
  pub text : w ≡ trace_text (traced_program given) (module_for options.no_terminating title given) (constants_of given.constants) (explained_of options.no_terminating title given).states
  pub halted : halt ≡ (explained_of options.no_terminating title given).halt
