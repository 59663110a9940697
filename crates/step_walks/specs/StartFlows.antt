-- What a start makes of the declarations by a list of choices ("A PlusCal User's Manual", sections 3.3 and 3.4, processes, procedures), where first values are
-- evaluated in some way.
use Rattle.std.specs.Prelude.{ℕ, List, [], ◌∷◌, Bool, true, false, map}
use Rattle.tla_token.specs.declared.place.Place.{Place}
use Rattle.tla_tree.specs.Tree.{Tree}
use Rattle.tla_value.specs.Value.{Value, Values, Outcome, ◌>>=◌, in_order}
use Rattle.tla_value.specs.Definitions.{Definition}
use Rattle.tla_value.specs.Stops.{members_at}
use Rattle.pcal_tree.specs.Algorithm.{Start, unset, equals, among, Declaration, Routine, locals, procedure_routines, main_routines}
use Rattle.pcal_tree.specs.Scope.{State, put}
use Rattle.pcal_tree.specs.Program.{Program, Actor, written}
use Rattle.pcal_tree.specs.Calls.{defaultInitValue}
use Rattle.pcal_tree.specs.Processes.{actors}
use Rattle.pcal_tree.specs.InitialStates.{function_on, running, is_multiprocess}
use Rattle.pcal_tree.specs.InitialChoice.{nothing, stack_begun, pc_begun}
use Rattle.step_walks.specs.FirstValues.{Evaluation, as_declared, as_written}
use Rattle.step_walks.specs.Flows.{Flow, falls, onward, flowing, chosen}

-- the value of a plain variable
abbrev pub plain_flow : (Tree → State → Outcome Value) → Place → Start → State → List ℕ → Flow Value
plain_flow value at unset s ns = falls defaultInitValue ns
plain_flow value at (equals e) s ns = flowing (value e s) (λ v. falls v ns)
plain_flow value at (among e) s ns = flowing ((value e s) >>= (members_at at)) (λ ws. chosen at ws ns falls)

-- a member for each identifier in turn
abbrev pub each_flow : Place → Values → List Actor → List ℕ → Flow (List Value)
each_flow at ws [] ns = falls [] ns
each_flow at ws (v ∷ vs) ns = chosen at ws ns (λ w ms. onward (each_flow at ws vs ms) (λ us ls. falls (w ∷ us) ls))

-- the values for all identifiers
abbrev pub values_flow : Evaluation → Routine → List Actor → Place → Start → State → List ℕ → Flow (List Value)
values_flow E u vs at unset s ns = falls (map (λ v. defaultInitValue) vs) ns
values_flow E u vs at (equals e) s ns = flowing (in_order (λ v. E.inside v u e s) vs) (λ ws. falls ws ns)
values_flow E u vs at (among e) s ns = flowing ((E.outside e s) >>= (members_at at)) (λ ws. each_flow at ws vs ns)

-- the function of the identifiers, which is reached at the variable's name
abbrev pub spread_flow : Evaluation → Program → Routine → List Actor → Place → Start → State → List ℕ → Flow Value
spread_flow E P u vs at d s ns = onward (values_flow E u vs at d s ns) (λ ws ms. flowing (P.check at (function_on vs ws)) (λ f. falls f ms))

abbrev pub globals_flow : Evaluation → List Declaration → State → List ℕ → Flow State
globals_flow E [] s ns = falls s ns
globals_flow E (d ∷ ds) s ns =
    onward (plain_flow E.outside d.name.place d.start s ns) (λ v ms. globals_flow E ds (put d.name.word v s) ms)

abbrev pub local_flow : Evaluation → Program → Routine → Bool → List Actor → Declaration → State → List ℕ → Flow State
local_flow E P u true vs d s ns =
    onward (spread_flow E P u vs d.name.place d.start s ns) (λ f ms. falls (put (written P u d.name.word) f s) ms)
local_flow E P u false [] d s ns = falls s ns
local_flow E P u false (v ∷ vs) d s ns =
    onward (plain_flow (E.inside v u) d.name.place d.start s ns) (λ w ms. falls (put (written P u d.name.word) w s) ms)

abbrev pub locals_flow : Evaluation → Program → Routine → Bool → List Actor → List Declaration → State → List ℕ → Flow State
locals_flow E P u spread vs [] s ns = falls s ns
locals_flow E P u spread vs (d ∷ ds) s ns = onward (local_flow E P u spread vs d s ns) (λ t ms. locals_flow E P u spread vs ds t ms)

abbrev pub procedures_flow : Evaluation → Program → List Actor → List Routine → State → List ℕ → Flow State
procedures_flow E P vs [] s ns = falls s ns
procedures_flow E P vs (u ∷ us) s ns =
    onward (locals_flow E P u (is_multiprocess P.algorithm.main) vs (locals u) s ns) (λ t ms. procedures_flow E P vs us t ms)

abbrev pub processes_flow : Evaluation → Program → List Actor → List Routine → State → List ℕ → Flow State
processes_flow E P vs [] s ns = falls s ns
processes_flow E P vs (u ∷ us) s ns =
    onward (locals_flow E P u u.spread (running u vs) (locals u) s ns) (λ t ms. processes_flow E P vs us t ms)

-- every stack is empty then, and every pc at its process's first label
abbrev pub ready : Program → List Actor → State → State
ready P vs s = pc_begun P vs (stack_begun P (procedure_routines P.algorithm) vs s)

-- with these processes
abbrev pub parts_flow : Evaluation → Program → List ℕ → List Actor → Flow State
parts_flow E P ns vs =
    onward (globals_flow E P.algorithm.globals nothing ns) (λ s ms.
    onward (procedures_flow E P vs (procedure_routines P.algorithm) s ms) (λ t ls.
    onward (processes_flow E P vs (main_routines P.algorithm P.algorithm.main) t ls) (λ u ks. falls (ready P vs u) ks)))

abbrev pub start_by : Evaluation → Program → List ℕ → Flow State
start_by E P ns = flowing (actors P) (parts_flow E P ns)

abbrev pub start_flow : Program → List ℕ → Flow State
start_flow P ns = start_by (as_declared P) P ns

-- where first values are prepared: written names, and a process's own variables at its identifier
abbrev pub written_start : Program → List Definition → List ℕ → Flow State
written_start P extra ns = start_by (as_written P extra) P ns
