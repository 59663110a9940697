-- What comes of a list of choices at a start is what comes of its declarations one by one.
use Rattle.std.proofs.Common.{◌≡◌, ℕ, List, [], ◌∷◌, Bool, true, false, refl, sym, ◌∙◌}
use Rattle.tla_token.specs.declared.place.Place.{Place}
use Rattle.tla_value.specs.Value.{Value, Values, ◌>>=◌}
use Rattle.tla_value.specs.Stops.{members_at}
use Rattle.pcal_tree.specs.Algorithm.{Start, unset, equals, among, Declaration, Routine, locals, procedure_routines, main_routines}
use Rattle.pcal_tree.specs.Scope.{State, put, Scope, value_of}
use Rattle.pcal_tree.specs.Run.{Course, ends, chooses, after, at_each}
use Rattle.pcal_tree.specs.Program.{Program, Actor, written, routine_scope, global_scope}
use Rattle.pcal_tree.specs.Processes.{actors}
use Rattle.pcal_tree.specs.InitialStates.{values_for, function_on, running, is_multiprocess}
use Rattle.pcal_tree.specs.InitialChoice.{nothing, plain_begun, each_chosen, values_begun, spread_begun, globals_begun, local_begun, locals_begun, procedures_begun, processes_begun, started}
use Rattle.pcal_tree.specs.Choices.{Walk, went, walk}
use Rattle.step_walks.specs.FirstValues.{as_declared}
use Rattle.step_walks.specs.Flows.{Flow, falls, onward, finish, flowing, chosen}
use Rattle.step_walks.specs.StartFlows.{plain_flow, each_flow, values_flow, spread_flow, globals_flow, local_flow, locals_flow, procedures_flow, processes_flow, ready, start_flow}
use Rattle.step_walks.proofs.FlowLaws.{finish_onward, finish_same, after_flows, chosen_flows}

-- ---- what follows is a course

abbrev goes_on : {X : Type 0} → (X → Course) → X → List ℕ → Walk
goes_on go x ms = walk (go x) ms

-- one part, and then another
both_flow : {X Y : Type 0} (first : Course) (f : Flow X) (next : X → Course) (g : X → List ℕ → Flow Y) (k : Y → List ℕ → Walk) (ns : List ℕ)
    → walk first ns ≡ finish f (goes_on next) → ((x : X) (ms : List ℕ) → walk (next x) ms ≡ finish (g x ms) k) → walk first ns ≡ finish (onward f g) k
both_flow first f next g k ns h i = h ∙ finish_same f (goes_on next) (λ x ms. finish (g x ms) k) i ∙ sym (finish_onward f g k)

-- ---- values

plain_flows : (P : Program) (sc : Scope) (at : Place) (d : Start) (s : State) (go : Value → Course) (ns : List ℕ) → walk (plain_begun P sc at d s go) ns ≡ finish (plain_flow (λ e. value_of P.check e sc) at d s ns) (goes_on go)
plain_flows P sc at unset s go ns = refl
plain_flows P sc at (equals e) s go ns = after_flows (value_of P.check e sc s) go (λ v. falls v ns) (goes_on go) ns (λ v. refl)
plain_flows P sc at (among e) s go ns =
    after_flows ((value_of P.check e sc s) >>= (members_at at)) (λ ws. chooses at (at_each ws go)) (λ ws. chosen at ws ns falls) (goes_on go) ns
    (λ ws. chosen_flows at ws ns go falls (goes_on go) (λ v ms. refl))

each_flows : (at : Place) (ws : Values) (vs : List Actor) (go : List Value → Course) (ns : List ℕ) → walk (each_chosen at ws vs go) ns ≡ finish (each_flow at ws vs ns) (goes_on go)
each_flows at ws [] go ns = refl
each_flows at ws (v ∷ vs) go ns =
    chosen_flows at ws ns (λ w. each_chosen at ws vs (λ us. go (w ∷ us))) (λ w ms. onward (each_flow at ws vs ms) (λ us ls. falls (w ∷ us) ls)) (goes_on go)
    (λ w ms. both_flow (each_chosen at ws vs (λ us. go (w ∷ us))) (each_flow at ws vs ms) (λ us. go (w ∷ us)) (λ us ls. falls (w ∷ us) ls) (goes_on go) ms
    (each_flows at ws vs (λ us. go (w ∷ us)) ms) (λ us ls. refl))

values_flows : (P : Program) (u : Routine) (vs : List Actor) (at : Place) (d : Start) (s : State) (go : List Value → Course) (ns : List ℕ)
    → walk (values_begun P u vs at d s go) ns ≡ finish (values_flow (as_declared P) u vs at d s ns) (goes_on go)
values_flows P u vs at unset s go ns = refl
values_flows P u vs at (equals e) s go ns = after_flows (values_for P u e s vs) go (λ ws. falls ws ns) (goes_on go) ns (λ ws. refl)
values_flows P u vs at (among e) s go ns =
    after_flows ((value_of P.check e (global_scope P) s) >>= (members_at at)) (λ ws. each_chosen at ws vs go) (λ ws. each_flow at ws vs ns) (goes_on go) ns (λ ws. each_flows at ws vs go ns)

spread_flows : (P : Program) (u : Routine) (vs : List Actor) (at : Place) (d : Start) (s : State) (go : Value → Course) (ns : List ℕ)
    → walk (spread_begun P u vs at d s go) ns ≡ finish (spread_flow (as_declared P) P u vs at d s ns) (goes_on go)
spread_flows P u vs at d s go ns =
    both_flow (spread_begun P u vs at d s go) (values_flow (as_declared P) u vs at d s ns) (λ ws. after (P.check at (function_on vs ws)) go) (λ ws ms. flowing (P.check at (function_on vs ws)) (λ f. falls f ms)) (goes_on go) ns
    (values_flows P u vs at d s (λ ws. after (P.check at (function_on vs ws)) go) ns)
    (λ ws ms. after_flows (P.check at (function_on vs ws)) go (λ f. falls f ms) (goes_on go) ms (λ f. refl))

-- ---- declarations

globals_flows : (P : Program) (ds : List Declaration) (s : State) (go : State → Course) (ns : List ℕ) → walk (globals_begun P ds s go) ns ≡ finish (globals_flow (as_declared P) ds s ns) (goes_on go)
globals_flows P [] s go ns = refl
globals_flows P (d ∷ ds) s go ns =
    let next : Value → Course = λ v. globals_begun P ds (put d.name.word v s) go in
    both_flow (plain_begun P (global_scope P) d.name.place d.start s next) (plain_flow (as_declared P).outside d.name.place d.start s ns) next (λ v ms. globals_flow (as_declared P) ds (put d.name.word v s) ms) (goes_on go) ns
    (plain_flows P (global_scope P) d.name.place d.start s next ns) (λ v ms. globals_flows P ds (put d.name.word v s) go ms)

local_flows : (P : Program) (u : Routine) (spread : Bool) (vs : List Actor) (d : Declaration) (s : State) (go : State → Course) (ns : List ℕ)
    → walk (local_begun P u spread vs d s go) ns ≡ finish (local_flow (as_declared P) P u spread vs d s ns) (goes_on go)
local_flows P u true vs d s go ns =
    let next : Value → Course = λ f. go (put (written P u d.name.word) f s) in
    both_flow (spread_begun P u vs d.name.place d.start s next) (spread_flow (as_declared P) P u vs d.name.place d.start s ns) next (λ f ms. falls (put (written P u d.name.word) f s) ms) (goes_on go) ns
    (spread_flows P u vs d.name.place d.start s next ns) (λ f ms. refl)
local_flows P u false [] d s go ns = refl
local_flows P u false (v ∷ vs) d s go ns =
    let next : Value → Course = λ w. go (put (written P u d.name.word) w s) in
    both_flow (plain_begun P (routine_scope P v u) d.name.place d.start s next) (plain_flow ((as_declared P).inside v u) d.name.place d.start s ns) next
    (λ w ms. falls (put (written P u d.name.word) w s) ms) (goes_on go) ns (plain_flows P (routine_scope P v u) d.name.place d.start s next ns) (λ w ms. refl)

locals_flows : (P : Program) (u : Routine) (spread : Bool) (vs : List Actor) (ds : List Declaration) (s : State) (go : State → Course) (ns : List ℕ)
    → walk (locals_begun P u spread vs ds s go) ns ≡ finish (locals_flow (as_declared P) P u spread vs ds s ns) (goes_on go)
locals_flows P u spread vs [] s go ns = refl
locals_flows P u spread vs (d ∷ ds) s go ns =
    let next : State → Course = λ t. locals_begun P u spread vs ds t go in
    both_flow (local_begun P u spread vs d s next) (local_flow (as_declared P) P u spread vs d s ns) next (λ t ms. locals_flow (as_declared P) P u spread vs ds t ms) (goes_on go) ns
    (local_flows P u spread vs d s next ns) (λ t ms. locals_flows P u spread vs ds t go ms)

procedures_flows : (P : Program) (vs : List Actor) (us : List Routine) (s : State) (go : State → Course) (ns : List ℕ) → walk (procedures_begun P vs us s go) ns ≡ finish (procedures_flow (as_declared P) P vs us s ns) (goes_on go)
procedures_flows P vs [] s go ns = refl
procedures_flows P vs (u ∷ us) s go ns =
    let next : State → Course = λ t. procedures_begun P vs us t go in
    both_flow (locals_begun P u (is_multiprocess P.algorithm.main) vs (locals u) s next) (locals_flow (as_declared P) P u (is_multiprocess P.algorithm.main) vs (locals u) s ns) next (λ t ms. procedures_flow (as_declared P) P vs us t ms) (goes_on go) ns
    (locals_flows P u (is_multiprocess P.algorithm.main) vs (locals u) s next ns) (λ t ms. procedures_flows P vs us t go ms)

processes_flows : (P : Program) (vs : List Actor) (us : List Routine) (s : State) (go : State → Course) (ns : List ℕ) → walk (processes_begun P vs us s go) ns ≡ finish (processes_flow (as_declared P) P vs us s ns) (goes_on go)
processes_flows P vs [] s go ns = refl
processes_flows P vs (u ∷ us) s go ns =
    let next : State → Course = λ t. processes_begun P vs us t go in
    both_flow (locals_begun P u u.spread (running u vs) (locals u) s next) (locals_flow (as_declared P) P u u.spread (running u vs) (locals u) s ns) next (λ t ms. processes_flow (as_declared P) P vs us t ms) (goes_on go) ns
    (locals_flows P u u.spread (running u vs) (locals u) s next ns) (λ t ms. processes_flows P vs us t go ms)

-- ---- the whole

pub start_flows : (P : Program) (ns : List ℕ) → walk (started P) ns ≡ finish (start_flow P ns) went
start_flows P ns = after_flows (actors P) all parts went ns whole
  where
    end : List Actor → State → Course
    end vs u = ends (ready P vs u)

    third : List Actor → State → Course
    third vs t = processes_begun P vs (main_routines P.algorithm P.algorithm.main) t (end vs)

    second : List Actor → State → Course
    second vs s = procedures_begun P vs (procedure_routines P.algorithm) s (third vs)

    all : List Actor → Course
    all vs = globals_begun P P.algorithm.globals nothing (second vs)

    last_part : List Actor → State → List ℕ → Flow State
    last_part vs t ls = onward (processes_flow (as_declared P) P vs (main_routines P.algorithm P.algorithm.main) t ls) (λ u ks. falls (ready P vs u) ks)

    next_part : List Actor → State → List ℕ → Flow State
    next_part vs s ms = onward (procedures_flow (as_declared P) P vs (procedure_routines P.algorithm) s ms) (last_part vs)

    parts : List Actor → Flow State
    parts vs = onward (globals_flow (as_declared P) P.algorithm.globals nothing ns) (next_part vs)

    whole : (vs : List Actor) → walk (all vs) ns ≡ finish (parts vs) went
    whole vs =
        both_flow (all vs) (globals_flow (as_declared P) P.algorithm.globals nothing ns) (second vs) (next_part vs) went ns (globals_flows P P.algorithm.globals nothing (second vs) ns)
        (λ s ms. both_flow (second vs s) (procedures_flow (as_declared P) P vs (procedure_routines P.algorithm) s ms) (third vs) (last_part vs) went ms (procedures_flows P vs (procedure_routines P.algorithm) s (third vs) ms)
        (λ t ls. both_flow (third vs t) (processes_flow (as_declared P) P vs (main_routines P.algorithm P.algorithm.main) t ls) (end vs) (λ u ks. falls (ready P vs u) ks) went ls
        (processes_flows P vs (main_routines P.algorithm P.algorithm.main) t (end vs) ls) (λ u ks. refl)))
