-- Whether variables have values that their declarations allow, by the written names: of one variable, of one routine, of all.
use Rattle.std.specs.Prelude.{List, Bool}
use Rattle.tla_tree.specs.Tree.{Word, Tree}
use Rattle.tla_value.specs.Limits.{bounded}
use Rattle.tla_value.specs.Meaning.{eval}
use Rattle.tla_value.specs.Value.{Value, Outcome, Sense, and_then}
use Rattle.pcal_tree.specs.Algorithm.{Start, among, Declaration, Routine, locals, procedure_routines, main_routines}
use Rattle.pcal_tree.specs.InitialStates.{is_multiprocess, running}
use Rattle.pcal_tree.specs.Program.{Program, Actor}
use Rattle.pcal_tree.specs.Scope.{State}
use Rattle.step_moves.specs.ScopeIn.{scope_in}
use Rattle.written_traces.specs.AskedStarts.{Meanings, as_written, plain_asked, locals_asked, globals_asked, procedures_asked, processes_asked}

-- what an expression means where these names are bound
abbrev pub sense_by : Program → List Word → List Value → Tree → State → Sense
sense_by P xs vs e s = eval bounded e ((scope_in P xs vs).env s)

-- nothing is to be chosen
abbrev pub IsGiven : Start → Type 0
IsGiven (among e) = ⊥
IsGiven _ = Unit {0}

-- ---- one of several

abbrev pub global_asked : Meanings → Declaration → State → Outcome Bool
global_asked M d s = plain_asked M.outside d.name.place d.start s (s d.name.word)

abbrev pub procedure_asked : Meanings → Program → List Actor → State → Routine → Outcome Bool
procedure_asked M P vs s u = locals_asked M P u (is_multiprocess P.algorithm.main) vs (locals u) s

abbrev pub process_asked : Meanings → Program → List Actor → State → Routine → Outcome Bool
process_asked M P vs s u = locals_asked M P u u.spread (running u vs) (locals u) s

-- ---- all variables that are declared

abbrev pub variables_asked : Program → List Actor → State → Outcome Bool
variables_asked P vs s =
    and_then (globals_asked (as_written P) P.algorithm.globals s)
    (and_then (procedures_asked (as_written P) P vs (procedure_routines P.algorithm) s)
    (processes_asked (as_written P) P vs (main_routines P.algorithm P.algorithm.main) s))
