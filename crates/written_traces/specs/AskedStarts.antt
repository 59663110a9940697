-- Initial states, where the expressions of declarations mean something in some way: as they are declared, or by the written names
-- ("A PlusCal User's Manual", sections 3.3 and 3.4, processes, procedures, and section 4, on names in the translation).
use Rattle.std.specs.Prelude.{List, [], ◌∷◌, Bool, true, false, map, None, Ok}
use Rattle.tla_token.specs.declared.place.Place.{Place}
use Rattle.tla_tree.specs.Tree.{Tree}
use Rattle.tla_value.specs.Value.{Value, values_in, Outcome, Sense, ◌>>=◌, in_order, and_then}
use Rattle.tla_value.specs.Order.{same}
use Rattle.tla_value.specs.Definitions.{no_state}
use Rattle.tla_value.specs.Meaning.{eval}
use Rattle.tla_value.specs.Stops.{members_at}
use Rattle.pcal_tree.specs.Algorithm.{Start, unset, equals, among, Declaration, Routine, locals, procedure_routines, main_routines}
use Rattle.pcal_tree.specs.Calls.{defaultInitValue}
use Rattle.pcal_tree.specs.InitialStates.{function_on, has_members, running, is_multiprocess, stack_allowed, pc_allowed}
use Rattle.pcal_tree.specs.Processes.{identifiers}
use Rattle.pcal_tree.specs.Program.{Program, Actor, written, routine_scope, global_scope}
use Rattle.pcal_tree.specs.Scope.{State}
use Rattle.pcal_tree.specs.Variables.{vars}
use Rattle.action_builder.specs.InitialFormulas.{written_in}
use Rattle.action_builder.specs.laws.Ready.{values_of}
use Rattle.action_builder.specs.laws.WrittenScope.{written_env, written_scope}

-- what expressions outside of processes mean, and those of a routine for a process
pub record Meanings : Type 0 where
  pub outside : Tree → State → Sense
  pub inside : Actor → Routine → Tree → State → Sense

abbrev pub as_declared : Program → Meanings
as_declared P = record {
  outside = λ e s. eval P.check e ((global_scope P).env s);
  inside = λ v u e s. eval P.check e ((routine_scope P v u).env s);
}

abbrev pub as_written : Program → Meanings
as_written P = record {
  outside = λ e s. eval P.check e (written_env P [] None (values_of (vars P) s) no_state);
  inside = λ v u e s. eval P.check (written_in P u e) ((written_scope P [] v).env s);
}

-- ---- whether a value is allowed

abbrev pub plain_asked : (Tree → State → Sense) → Place → Start → State → Value → Outcome Bool
plain_asked f at unset s v = Ok (same v defaultInitValue)
plain_asked f at (equals e) s v = do
  w ← (f e s).value
  Ok (same v w)
plain_asked f at (among e) s v = (f e s).test at v

abbrev pub spread_asked : Meanings → Program → Routine → List Actor → Place → Start → State → Value → Outcome Bool
spread_asked M P u vs at unset s f = do
  g ← P.check at (function_on vs (map (λ v. defaultInitValue) vs))
  Ok (same f g)
spread_asked M P u vs at (equals e) s f = do
  ws ← in_order (λ v. (M.inside v u e s).value) vs
  g ← P.check at (function_on vs ws)
  Ok (same f g)
spread_asked M P u vs at (among e) s f = do
  w ← (M.outside e s).value
  ws ← members_at at w
  Ok (has_members (values_in (identifiers vs)) ws f)

-- ---- all variables

abbrev pub globals_asked : Meanings → List Declaration → State → Outcome Bool
globals_asked M [] s = Ok true
globals_asked M (d ∷ ds) s = and_then (plain_asked M.outside d.name.place d.start s (s d.name.word)) (globals_asked M ds s)

abbrev pub local_asked : Meanings → Program → Routine → Bool → List Actor → Declaration → State → Outcome Bool
local_asked M P u true vs d s = spread_asked M P u vs d.name.place d.start s (s (written P u d.name.word))
local_asked M P u false [] d s = Ok true
local_asked M P u false (v ∷ vs) d s = plain_asked (M.inside v u) d.name.place d.start s (s (written P u d.name.word))

abbrev pub locals_asked : Meanings → Program → Routine → Bool → List Actor → List Declaration → State → Outcome Bool
locals_asked M P u spread vs [] s = Ok true
locals_asked M P u spread vs (d ∷ ds) s = and_then (local_asked M P u spread vs d s) (locals_asked M P u spread vs ds s)

abbrev pub procedures_asked : Meanings → Program → List Actor → List Routine → State → Outcome Bool
procedures_asked M P vs [] s = Ok true
procedures_asked M P vs (u ∷ us) s =
    and_then (locals_asked M P u (is_multiprocess P.algorithm.main) vs (locals u) s) (procedures_asked M P vs us s)

abbrev pub processes_asked : Meanings → Program → List Actor → List Routine → State → Outcome Bool
processes_asked M P vs [] s = Ok true
processes_asked M P vs (u ∷ us) s = and_then (locals_asked M P u u.spread (running u vs) (locals u) s) (processes_asked M P vs us s)

-- whether a state is initial, with these processes
abbrev pub start_asked : Meanings → Program → List Actor → State → Outcome Bool
start_asked M P vs s =
    and_then (globals_asked M P.algorithm.globals s)
    (and_then (procedures_asked M P vs (procedure_routines P.algorithm) s)
    (and_then (processes_asked M P vs (main_routines P.algorithm P.algorithm.main) s)
    (and_then (Ok (stack_allowed P (procedure_routines P.algorithm) vs s)) (Ok (pc_allowed P vs s)))))
