-- The making of an initial state, where a member is chosen for each variable that is declared by a set ("A PlusCal User's Manual", section 3.3, processes).
use Rattle.std.specs.Prelude.{List, [], ◌∷◌, Bool, true, false, map}
use Rattle.tla_token.specs.declared.place.Place.{Place}
use Rattle.tla_tree.specs.Tree.{Word}
use Rattle.tla_value.specs.Value.{Value, truth, Values, ◌>>=◌}
use Rattle.pcal_tree.specs.Algorithm.{Start, unset, equals, among, Declaration, Main, alone, processes, Routine, locals, procedure_routines, main_routines}
use Rattle.tla_value.specs.Stops.{members_at}
use Rattle.pcal_tree.specs.Scope.{State, put, Scope, value_of}
use Rattle.pcal_tree.specs.Run.{Course, ends, chooses, after, at_each}
use Rattle.pcal_tree.specs.Program.{Program, Actor, written, routine_scope, global_scope}
use Rattle.pcal_tree.specs.Calls.{defaultInitValue, first_label, label_value}
use Rattle.pcal_tree.specs.InitialStates.{values_for, function_on, running, is_multiprocess, empty_stack}
use Rattle.pcal_tree.specs.Variables.{pc, stack}
use Rattle.pcal_tree.specs.Processes.{actors}

-- a plain variable; a choice is at its name
abbrev pub plain_begun : Program → Scope → Place → Start → State → (Value → Course) → Course
plain_begun P sc at unset s go = go defaultInitValue
plain_begun P sc at (equals e) s go = after (value_of P.check e sc s) go
plain_begun P sc at (among e) s go = after ((value_of P.check e sc s) >>= (members_at at)) (λ ws. chooses at (at_each ws go))

-- a member for each identifier in turn
abbrev pub each_chosen : Place → Values → List Actor → (List Value → Course) → Course
each_chosen at ws [] go = go []
each_chosen at ws (v ∷ vs) go = chooses at (at_each ws (λ w. each_chosen at ws vs (λ us. go (w ∷ us))))

-- the values for all identifiers
abbrev pub values_begun : Program → Routine → List Actor → Place → Start → State → (List Value → Course) → Course
values_begun P u vs at unset s go = go (map (λ v. defaultInitValue) vs)
values_begun P u vs at (equals e) s go = after (values_for P u e s vs) go
values_begun P u vs at (among e) s go =
    after ((value_of P.check e (global_scope P) s) >>= (members_at at)) (λ ws. each_chosen at ws vs go)

-- the function of the identifiers is reached at the variable's name
abbrev pub spread_begun : Program → Routine → List Actor → Place → Start → State → (Value → Course) → Course
spread_begun P u vs at d s go =
    values_begun P u vs at d s (λ ws. after (P.check at (function_on vs ws)) go)

abbrev pub globals_begun : Program → List Declaration → State → (State → Course) → Course
globals_begun P [] s go = go s
globals_begun P (d ∷ ds) s go =
    plain_begun P (global_scope P) d.name.place d.start s (λ v. globals_begun P ds (put d.name.word v s) go)

abbrev pub local_begun : Program → Routine → Bool → List Actor → Declaration → State → (State → Course) → Course
local_begun P u true vs d s go = spread_begun P u vs d.name.place d.start s (λ f. go (put (written P u d.name.word) f s))
local_begun P u false [] d s go = go s
local_begun P u false (v ∷ vs) d s go =
    plain_begun P (routine_scope P v u) d.name.place d.start s (λ w. go (put (written P u d.name.word) w s))

abbrev pub locals_begun : Program → Routine → Bool → List Actor → List Declaration → State → (State → Course) → Course
locals_begun P u spread vs [] s go = go s
locals_begun P u spread vs (d ∷ ds) s go = local_begun P u spread vs d s (λ t. locals_begun P u spread vs ds t go)

abbrev pub procedures_begun : Program → List Actor → List Routine → State → (State → Course) → Course
procedures_begun P vs [] s go = go s
procedures_begun P vs (u ∷ us) s go =
    locals_begun P u (is_multiprocess P.algorithm.main) vs (locals u) s (λ t. procedures_begun P vs us t go)

abbrev pub processes_begun : Program → List Actor → List Routine → State → (State → Course) → Course
processes_begun P vs [] s go = go s
processes_begun P vs (u ∷ us) s go = locals_begun P u u.spread (running u vs) (locals u) s (λ t. processes_begun P vs us t go)

abbrev pub own_begun : Main → Word → List Actor → (Actor → Value) → State → State
own_begun (processes ps) x vs f s = put x (function_on vs (map f vs)) s
own_begun (alone ss) x [] f s = s
own_begun (alone ss) x (v ∷ vs) f s = put x (f v) s

abbrev pub stack_begun : Program → List Routine → List Actor → State → State
stack_begun P [] vs s = s
stack_begun P (u ∷ us) vs s = own_begun P.algorithm.main stack vs (λ v. empty_stack) s

abbrev pub pc_begun : Program → List Actor → State → State
pc_begun P vs s = own_begun P.algorithm.main pc vs (λ v. label_value P v.own (first_label v.own)) s

-- before the first variable has its value
abbrev pub nothing : State
nothing x = truth false

-- globals, variables of procedures and of processes, in order; then every stack is empty, and every pc is at its process's first label
abbrev pub started : Program → Course
started P =
    after (actors P) (λ vs.
    globals_begun P P.algorithm.globals nothing (λ s.
    procedures_begun P vs (procedure_routines P.algorithm) s (λ t.
    processes_begun P vs (main_routines P.algorithm P.algorithm.main) t (λ u.
    ends (pc_begun P vs (stack_begun P (procedure_routines P.algorithm) vs u))))))
