-- What names mean in a routine that a process runs ("A PlusCal User's Manual", sections 3.3 to 3.6, processes, procedures, macros, definitions).
use Rattle.std.specs.Prelude.{List, [], ◌∷◌, ◌++◌, false, cond, bytes_eq, codes, Option, Some, None, map, Ok, Err}
use Rattle.tla_token.specs.declared.place.Place.{Place}
use Rattle.tla_tree.specs.Tree.{Word, words}
use Rattle.tla_value.specs.declared.fault.FaultKind.TheVariants.{NotFunction}
use Rattle.tla_value.specs.Value.{Value, Outcome, Sense, ◌>>=◌, fault}
use Rattle.tla_value.specs.Stops.{Check, sense_of}
use Rattle.tla_value.specs.Strict.{applied}
use Rattle.tla_value.specs.Meaning.{Env}
use Rattle.tla_value.specs.Definitions.{Valuation, no_state, scope_of, or_sense}
use Rattle.tla_value.specs.Definitions as Outside
use Rattle.pcal_tree.specs.Algorithm.{nowhere, Declaration, Definition, declares, Routine, locals, Naming, Algorithm}
use Rattle.pcal_tree.specs.Scope.{State, Part, Scope}

-- a labelled algorithm, with what its meaning rests on: the limits of values, the constants, the definitions outside the algorithm, and the
-- written names
pub record Program : Type 0 where
  pub check : Check
  pub constants : Valuation
  pub outside : List Outside.Definition
  pub algorithm : Algorithm
  pub naming : Naming

-- a process: its identifier, which the one body of a uniprocess algorithm lacks, and what it runs but for procedures
pub record Actor : Type 0 where
  pub self : Option Value
  pub own : Routine

-- ---- variables and definitions

-- the global variables on a state
abbrev pub globals_on : State → List Declaration → Valuation
globals_on s ds x = cond (declares ds x) (Some (s x)) None

abbrev pub inner : Definition → Outside.Definition
inner d = record { title = d.name.word; params = words d.params; body = d.body; outside = false }

-- names that are no routine's own, where variables have the values of the look-up
abbrev pub common_env : Program → Valuation → Env
common_env P s = scope_of P.check P.constants (P.outside ++ map inner P.algorithm.definitions) s no_state

abbrev pub global_env : Program → State → Env
global_env P s = common_env P (globals_on s P.algorithm.globals)

-- ---- scopes

-- where a variable stands that is a function of identifiers
abbrev pub index : Option Value → List Value
index (Some v) = v ∷ []
index None = []

-- where the variables of a routine are
abbrev pub local_index : Actor → Routine → List Value
local_index v u = cond u.spread (index v.self) []

abbrev pub written : Program → Routine → Word → Word
written P u x = P.naming.local u.number x

-- what is at a path
abbrev pub read_at : Place → List Value → Value → Outcome Value
read_at at [] v = Ok v
read_at at (k ∷ ks) f = do
  v ← applied at f k
  read_at at ks v

abbrev pub read_name : Program → Actor → Routine → State → Word → Place → Sense
read_name P v u s x at =
    cond (bytes_eq (codes "self") x) (or_sense v.self ((global_env P s).now x at))
    (cond (declares (locals u) x) (sense_of (read_at at (local_index v u) (s (written P u x)))) ((global_env P s).now x at))

abbrev pub global_part : Program → Word → Outcome Part
global_part P x = cond (declares P.algorithm.globals x) (Ok (record { variable = x; path = [] })) (Err (fault NotFunction nowhere))

abbrev pub part_of : Program → Actor → Routine → Word → Outcome Part
part_of P v u x = cond (declares (locals u) x) (Ok (record { variable = written P u x; path = local_index v u })) (global_part P x)

-- `self` is the process's identifier, a routine's own variables are at it, and others are global
abbrev pub routine_scope : Program → Actor → Routine → Scope
routine_scope P v u = record {
  env = λ s. record { now = read_name P v u s; primed = (global_env P s).primed; defs = (global_env P s).defs };
  part = λ x at s. part_of P v u x;
  origin = λ x at. at;
}

-- outside all routines
abbrev pub global_scope : Program → Scope
global_scope P = record { env = global_env P; part = λ x at s. global_part P x; origin = λ x at. at }
