-- Where expressions mean the same in two ways, whether a state is initial is asked alike; and it is asked as it is declared.
use Rattle.std.proofs.Common.{◌≡◌, List, [], ◌∷◌, Bool, true, false, Ok, inl, inr, refl, sym}
use Rattle.std.specs.List.{AllByRecursion}
use Rattle.tla_token.specs.declared.place.Place.{Place}
use Rattle.tla_tree.specs.Tree.{Tree}
use Rattle.tla_value.specs.Value.{Value, values_in, Outcome, Sense, ◌>>=◌, in_order, and_then}
use Rattle.tla_value.specs.Order.{same}
use Rattle.tla_value.specs.Stops.{members_at}
use Rattle.pcal_tree.specs.Algorithm.{Start, unset, equals, among, Declaration, Routine, locals, procedure_routines, main_routines, Algorithm}
use Rattle.pcal_tree.specs.InitialStates.{function_on, has_members, running, is_multiprocess, stack_allowed, pc_allowed, allowed}
use Rattle.pcal_tree.specs.Processes.{actors, identifiers, OneOf}
use Rattle.pcal_tree.specs.Program.{Program, Actor, written}
use Rattle.pcal_tree.specs.Scope.{State}
use Rattle.step_walks.specs.FirstValues.{Evaluation}
use Rattle.step_walks.specs.laws.FirstValues.{SpreadAlike, LocalAlike}
use Rattle.written_traces.specs.AskedStarts.{Meanings, as_declared, plain_asked, spread_asked, globals_asked, local_asked, locals_asked, procedures_asked, processes_asked, start_asked}

-- ---- what is asked

-- the values alone
abbrev pub values_by : Meanings → Evaluation
values_by M = record { outside = λ e s. (M.outside e s).value; inside = λ v u e s. (M.inside v u e s).value }

-- the expression of a declaration or its set means the same, the test of the set too
abbrev pub SensesAlike : (Tree → State → Sense) → (Tree → State → Sense) → Start → Type 0
SensesAlike f g unset = Unit {0}
SensesAlike f g (equals e) = (s : State) → f e s ≡ g e s
SensesAlike f g (among e) = (s : State) → f e s ≡ g e s

-- the set of a variable of many processes is never tested but for its members
abbrev pub LocalSenses : Meanings → Meanings → Routine → Bool → List Actor → Start → Type 0
LocalSenses M N u true vs d = SpreadAlike (values_by M) (values_by N) u vs d
LocalSenses M N u false vs d = (v : Actor) → OneOf v vs → SensesAlike (M.inside v u) (N.inside v u) d

abbrev pub LocalsSenses : Meanings → Meanings → Routine → Bool → List Actor → List Declaration → Type 0
LocalsSenses M N u spread vs ds = AllByRecursion (λ d. LocalSenses M N u spread vs d.start) ds

-- of all declarations, with these processes
pub record MeaningsAlike (M N : Meanings) (a : Algorithm) (vs : List Actor) : Type 0 where
  pub globals : AllByRecursion (λ d. SensesAlike M.outside N.outside d.start) a.globals
  pub procedures : (u : Routine) → OneOf u (procedure_routines a) → LocalsSenses M N u (is_multiprocess a.main) vs (locals u)
  pub processes : (u : Routine) → OneOf u (main_routines a a.main) → LocalsSenses M N u u.spread (running u vs) (locals u)

-- ---- asked alike

plain_alike : (f g : Tree → State → Sense) (at : Place) (d : Start) → SensesAlike f g d → (s : State) (v : Value) → plain_asked f at d s v ≡ plain_asked g at d s v
plain_alike f g at unset h s v = refl
plain_alike f g at (equals e) h s v = λ i. ((h s i).value) >>= (λ w. Ok (same v w))
plain_alike f g at (among e) h s v = λ i. (h s i).test at v

each_alike : (f g : Actor → Outcome Value) (vs : List Actor) → ((v : Actor) → OneOf v vs → f v ≡ g v) → in_order f vs ≡ in_order g vs
each_alike f g [] h = refl
each_alike f g (v ∷ vs) h = λ i. (h v (inl refl) i) >>= (λ w. (each_alike f g vs (λ x m. h x (inr m)) i) >>= (λ ws. Ok (w ∷ ws)))

module _ (M N : Meanings) (P : Program) where
  spread_alike : (u : Routine) (vs : List Actor) (at : Place) (d : Start) → SpreadAlike (values_by M) (values_by N) u vs d → (s : State) (f : Value) → spread_asked M P u vs at d s f ≡ spread_asked N P u vs at d s f
  spread_alike u vs at unset h s f = refl
  spread_alike u vs at (equals e) h s f = λ i. (each_alike (λ v. (M.inside v u e s).value) (λ v. (N.inside v u e s).value) vs (λ v m. h v m s) i) >>= (λ ws. (P.check at (function_on vs ws)) >>= (λ g. Ok (same f g)))
  spread_alike u vs at (among e) h s f = λ i. (h s i) >>= (λ w. (members_at at w) >>= (λ ws. Ok (has_members (values_in (identifiers vs)) ws f)))

  globals_alike : (ds : List Declaration) → AllByRecursion (λ d. SensesAlike M.outside N.outside d.start) ds → (s : State) → globals_asked M ds s ≡ globals_asked N ds s
  globals_alike [] h s = refl
  globals_alike (d ∷ ds) h s = λ i. and_then (plain_alike M.outside N.outside d.name.place d.start h.0 s (s d.name.word) i) (globals_alike ds h.1 s i)

  local_alike : (u : Routine) (spread : Bool) (vs : List Actor) (d : Declaration) → LocalSenses M N u spread vs d.start → (s : State) → local_asked M P u spread vs d s ≡ local_asked N P u spread vs d s
  local_alike u true vs d h s = spread_alike u vs d.name.place d.start h s (s (written P u d.name.word))
  local_alike u false [] d h s = refl
  local_alike u false (v ∷ vs) d h s = plain_alike (M.inside v u) (N.inside v u) d.name.place d.start (h v (inl refl)) s (s (written P u d.name.word))

  locals_alike : (u : Routine) (spread : Bool) (vs : List Actor) (ds : List Declaration) → LocalsSenses M N u spread vs ds → (s : State) → locals_asked M P u spread vs ds s ≡ locals_asked N P u spread vs ds s
  locals_alike u spread vs [] h s = refl
  locals_alike u spread vs (d ∷ ds) h s = λ i. and_then (local_alike u spread vs d h.0 s i) (locals_alike u spread vs ds h.1 s i)

  procedures_alike : (vs : List Actor) (us : List Routine) → ((u : Routine) → OneOf u us → LocalsSenses M N u (is_multiprocess P.algorithm.main) vs (locals u)) → (s : State)
      → procedures_asked M P vs us s ≡ procedures_asked N P vs us s
  procedures_alike vs [] h s = refl
  procedures_alike vs (u ∷ us) h s = λ i. and_then (locals_alike u (is_multiprocess P.algorithm.main) vs (locals u) (h u (inl refl)) s i) (procedures_alike vs us (λ w m. h w (inr m)) s i)

  processes_alike : (vs : List Actor) (us : List Routine) → ((u : Routine) → OneOf u us → LocalsSenses M N u u.spread (running u vs) (locals u)) → (s : State) → processes_asked M P vs us s ≡ processes_asked N P vs us s
  processes_alike vs [] h s = refl
  processes_alike vs (u ∷ us) h s = λ i. and_then (locals_alike u u.spread (running u vs) (locals u) (h u (inl refl)) s i) (processes_alike vs us (λ w m. h w (inr m)) s i)

  pub start_alike : (vs : List Actor) → MeaningsAlike M N P.algorithm vs → (s : State) → start_asked M P vs s ≡ start_asked N P vs s
  start_alike vs h s = λ i. and_then (globals_alike P.algorithm.globals h.globals s i)
      (and_then (procedures_alike vs (procedure_routines P.algorithm) h.procedures s i)
      (and_then (processes_alike vs (main_routines P.algorithm P.algorithm.main) h.processes s i)
      (and_then (Ok (stack_allowed P (procedure_routines P.algorithm) vs s)) (Ok (pc_allowed P vs s)))))

-- ---- from the values and the senses

module _ (M N : Meanings) (u : Routine) where
  local_senses : (spread : Bool) (vs : List Actor) (d : Start) → LocalAlike (values_by M) (values_by N) u spread vs d → ((v : Actor) → OneOf v vs → SensesAlike (M.inside v u) (N.inside v u) d)
      → LocalSenses M N u spread vs d
  local_senses true vs d h k = h
  local_senses false vs d h k = k

  pub locals_senses : (spread : Bool) (vs : List Actor) (ds : List Declaration) → AllByRecursion (λ d. LocalAlike (values_by M) (values_by N) u spread vs d.start) ds
      → ((v : Actor) → OneOf v vs → AllByRecursion (λ d. SensesAlike (M.inside v u) (N.inside v u) d.start) ds) → LocalsSenses M N u spread vs ds
  locals_senses spread vs [] h k = tt
  locals_senses spread vs (d ∷ ds) h k = (local_senses spread vs d.start h.0 (λ v m. (k v m).0), locals_senses spread vs ds h.1 (λ v m. (k v m).1))

-- ---- as it is declared

pub asked_declared : (P : Program) (vs : List Actor) (s : State) → actors P ≡ Ok vs → start_asked (as_declared P) P vs s ≡ allowed P s
asked_declared P vs s e = λ i. (sym e i) >>= (λ us. start_asked (as_declared P) P us s)
