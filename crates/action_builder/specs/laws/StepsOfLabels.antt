-- A step from a label of a process, as the laws of written actions have it: with the written names, in their scope.
use Rattle.std.specs.Prelude.{List, [], ◌∷◌, ◌++◌, Bool, reverse, Ok, ◌≡◌, true}
use Rattle.tla_token.specs.Signs.{is_among}
use Rattle.tla_tree.specs.Tree.{Word, Every}
use Rattle.tla_value.specs.Meaning.{Env}
use Rattle.tla_value.specs.Definitions.{Definition}
use Rattle.tla_value.specs.laws.Grafting.{In, AllSettled, IsUnprimed}
use Rattle.module_tree.specs.Formulas.{self}
use Rattle.pcal_tree.specs.Scope.{State}
use Rattle.pcal_tree.specs.Run.{Has}
use Rattle.pcal_tree.specs.Program.{Program, Actor, index}
use Rattle.pcal_tree.specs.Calls.{rules_without_macros}
use Rattle.pcal_tree.specs.Variables.{vars, Agree, pc}
use Rattle.pcal_tree.specs.Step.{Stand, course_of}
use Rattle.pcal_tree.specs.Expand.{expanded}
use Rattle.pcal_tree.specs.laws.Expansion.{Calls, FineCall, Clean}
use Rattle.action_builder.specs.Assigned.{Names}
use Rattle.action_builder.specs.Jumps.{written_jumps}
use Rattle.action_builder.specs.WrittenNames.{renames, written_statements}
use Rattle.action_builder.specs.OwnVariables.{is_own_variable}
use Rattle.action_builder.specs.LabelActions.{no_jump_places, written_initials}
use Rattle.action_builder.specs.laws.Settling.{Callable}
use Rattle.action_builder.specs.laws.Ready.{Readable, IsWithin, values_of}
use Rattle.action_builder.specs.laws.LabelSteps.{LabelStep}
use Rattle.pcal_tree.specs.laws.ReadNames.{ReadsBody}
use Rattle.action_builder.specs.laws.WrittenScope.{Seen, written_env, written_scope, definitions_of}
use Rattle.pcal_tree.specs.Processes.{identifier}
use Rattle.action_builder.specs.laws.Scopes.{own_path}

abbrev pub step_of : Program → List Definition → Actor → Stand → (Word → Bool) → Callable → LabelStep
step_of P extra v d names callable = record {
  rules = rules_without_macros P v d.routine;
  jumps = written_jumps P d.routine (written_initials P) no_jump_places;
  names = names;
  callable = callable;
  self = self;
  own = is_own_variable P;
  scope = written_scope P extra v;
  here = d.label;
  exit = d.begins.exit;
  statements = written_statements P d.routine d.begins.items;
}

-- of pairs of states
abbrev pub pair_env : Program → List Definition → Actor → State → State → Env
pair_env P extra v s t = written_env P extra v.self (values_of (vars P) s) (values_of (vars P) t)

-- what is asked of the statements, macro calls written out: they capture nothing, bind no name that is a routine's, and read what is seen in it
pub record NamesGiven (P : Program) (extra : List Definition) (d : Stand) : Type 0 where
  pub calls : Calls (FineCall (reverse P.algorithm.macros)) d.begins.items
  pub clean : Clean P.check (renames P d.routine) (expanded (reverse P.algorithm.macros) d.begins.items)
  pub reads : ReadsBody (Seen P extra d.routine) (expanded (reverse P.algorithm.macros) d.begins.items)

abbrev pub AllUnprimed : List Definition → Type 0
AllUnprimed [] = Unit {0}
AllUnprimed (d ∷ ds) = Every IsUnprimed d.body × AllUnprimed ds

-- of the names that may be read, a definition reads none that is assigned
abbrev pub AllSettledFor : Program → List Definition → Readable → Type 0
AllSettledFor P extra U = (A : Names) → IsWithin A (is_among (vars P)) → AllSettled A (In (U A)) (definitions_of P ++ extra)

-- process v goes from there to t
abbrev pub Goes : Program → Actor → Stand → State → State → Type 0
Goes P v d s t = (u : State) × Has (course_of P v d s) (Ok u) × Agree (vars P) u t

-- where pc is, is told by the module's variables and by the process alike
pub record PcStands (P : Program) (v : Actor) : Type 0 where
  pub among : is_among (vars P) pc ≡ true
  pub path : own_path (is_own_variable P pc) (identifier v.self) ≡ index v.self
