-- What comes of a start under limits.
use Rattle.std.proofs.Common.{ℕ, List, [], ◌∷◌, Bool, true, false}
use Rattle.tla_token.specs.declared.place.Place.{Place}
use Rattle.tla_value.specs.Value.{Value, Values, ◌>>=◌}
use Rattle.tla_value.specs.Limits.{bounded}
use Rattle.tla_value.specs.Stops.{plain, members_at}
use Rattle.tla_value.specs.laws.UnderLimits.{Below}
use Rattle.tla_tree.specs.Tree.{Tree}
use Rattle.pcal_tree.specs.Algorithm.{Start, unset, equals, among, Declaration, Routine, locals, procedure_routines, main_routines}
use Rattle.pcal_tree.specs.Scope.{State, put, Scope, value_of}
use Rattle.pcal_tree.specs.Run.{Course, ends, after}
use Rattle.pcal_tree.specs.Choices.{walk}
use Rattle.pcal_tree.specs.Program.{Program, Actor, written, routine_scope, global_scope}
use Rattle.pcal_tree.specs.Processes.{actors}
use Rattle.pcal_tree.specs.InitialStates.{values_for, function_on, running, is_multiprocess}
use Rattle.pcal_tree.specs.InitialChoice.{nothing, plain_begun, each_chosen, values_begun, spread_begun, globals_begun, local_begun, locals_begun, procedures_begun, processes_begun, stack_begun, pc_begun, started}
use Rattle.pcal_tree.specs.StepAnswers.{start_by}
use Rattle.run_answer.specs.LimitedRuns.{under, ReplyBelow}
use Rattle.run_answer.proofs.Outcomes.{CourseBelow, course_same, after_below, chooses_below, each_below, below_same, below_then, below_order, reached_below}
use Rattle.run_answer.proofs.Scopes.{ScopesBelow, value_below, routine_below, global_below}
use Rattle.run_answer.proofs.Steps.{actors_below, replied_below}

abbrev GoesBelow : {X : Type 0} → (X → Course) → (X → Course) → Type 0
GoesBelow f g = (x : _) → CourseBelow (f x) (g x)

module _ (P : Program) where
  abbrev B : Program
  B = under bounded P

  abbrev F : Program
  F = under plain P

  -- ---- values

  among_below : (at : Place) (e : Tree) (sc sd : Scope) (s : State) → ScopesBelow sc sd → Below ((value_of bounded e sc s) >>= (members_at at)) ((value_of plain e sd s) >>= (members_at at))
  among_below at e sc sd s k = below_then (value_of bounded e sc s) (value_of plain e sd s) _ _ (value_below e sc sd s k) (λ v. below_same (members_at at v))

  plain_below : (sc sd : Scope) (at : Place) (d : Start) (s : State) (f g : Value → Course) → ScopesBelow sc sd → GoesBelow f g → CourseBelow (plain_begun B sc at d s f) (plain_begun F sd at d s g)
  plain_below sc sd at unset s f g k h = h _
  plain_below sc sd at (equals e) s f g k h = after_below (value_of bounded e sc s) (value_of plain e sd s) f g (value_below e sc sd s k) h
  plain_below sc sd at (among e) s f g k h = after_below _ _ _ _ (among_below at e sc sd s k) (λ ws. chooses_below at _ _ (each_below ws f g h))

  each_chosen_below : (at : Place) (ws : Values) (vs : List Actor) (f g : List Value → Course) → GoesBelow f g → CourseBelow (each_chosen at ws vs f) (each_chosen at ws vs g)
  each_chosen_below at ws [] f g h = h []
  each_chosen_below at ws (v ∷ vs) f g h = chooses_below at _ _ (each_below ws _ _ (λ w. each_chosen_below at ws vs (λ us. f (w ∷ us)) (λ us. g (w ∷ us)) (λ us. h (w ∷ us))))

  values_below : (u : Routine) (vs : List Actor) (at : Place) (d : Start) (s : State) (f g : List Value → Course) → GoesBelow f g → CourseBelow (values_begun B u vs at d s f) (values_begun F u vs at d s g)
  values_below u vs at unset s f g h = h _
  values_below u vs at (equals e) s f g h =
      after_below (values_for B u e s vs) (values_for F u e s vs) f g
      (below_order (λ v. value_of bounded e (routine_scope B v u) s) (λ v. value_of plain e (routine_scope F v u) s) (λ v. value_below e (routine_scope B v u) (routine_scope F v u) s (routine_below P v u)) vs) h
  values_below u vs at (among e) s f g h =
      after_below _ _ _ _ (among_below at e (global_scope B) (global_scope F) s (global_below P)) (λ ws. each_chosen_below at ws vs f g h)

  spread_below : (u : Routine) (vs : List Actor) (at : Place) (d : Start) (s : State) (f g : Value → Course) → GoesBelow f g → CourseBelow (spread_begun B u vs at d s f) (spread_begun F u vs at d s g)
  spread_below u vs at d s f g h =
      values_below u vs at d s (λ ws. after (bounded at (function_on vs ws)) f) (λ ws. after (plain at (function_on vs ws)) g) (λ ws. after_below _ _ f g (reached_below at (function_on vs ws)) h)

  -- ---- declarations

  globals_below : (ds : List Declaration) (s : State) (f g : State → Course) → GoesBelow f g → CourseBelow (globals_begun B ds s f) (globals_begun F ds s g)
  globals_below [] s f g h = h s
  globals_below (d ∷ ds) s f g h =
      plain_below (global_scope B) (global_scope F) d.name.place d.start s (λ v. globals_begun B ds (put d.name.word v s) f) (λ v. globals_begun F ds (put d.name.word v s) g) (global_below P) (λ v. globals_below ds (put d.name.word v s) f g h)

  local_below : (u : Routine) (spread : Bool) (vs : List Actor) (d : Declaration) (s : State) (f g : State → Course) → GoesBelow f g → CourseBelow (local_begun B u spread vs d s f) (local_begun F u spread vs d s g)
  local_below u true vs d s f g h = spread_below u vs d.name.place d.start s (λ w. f (put (written P u d.name.word) w s)) (λ w. g (put (written P u d.name.word) w s)) (λ w. h (put (written P u d.name.word) w s))
  local_below u false [] d s f g h = h s
  local_below u false (v ∷ vs) d s f g h =
      plain_below (routine_scope B v u) (routine_scope F v u) d.name.place d.start s (λ w. f (put (written P u d.name.word) w s)) (λ w. g (put (written P u d.name.word) w s)) (routine_below P v u) (λ w. h (put (written P u d.name.word) w s))

  locals_below : (u : Routine) (spread : Bool) (vs : List Actor) (ds : List Declaration) (s : State) (f g : State → Course) → GoesBelow f g → CourseBelow (locals_begun B u spread vs ds s f) (locals_begun F u spread vs ds s g)
  locals_below u spread vs [] s f g h = h s
  locals_below u spread vs (d ∷ ds) s f g h =
      local_below u spread vs d s (λ t. locals_begun B u spread vs ds t f) (λ t. locals_begun F u spread vs ds t g) (λ t. locals_below u spread vs ds t f g h)

  procedures_below : (vs : List Actor) (us : List Routine) (s : State) (f g : State → Course) → GoesBelow f g → CourseBelow (procedures_begun B vs us s f) (procedures_begun F vs us s g)
  procedures_below vs [] s f g h = h s
  procedures_below vs (u ∷ us) s f g h =
      locals_below u (is_multiprocess P.algorithm.main) vs (locals u) s (λ t. procedures_begun B vs us t f) (λ t. procedures_begun F vs us t g) (λ t. procedures_below vs us t f g h)

  processes_below : (vs : List Actor) (us : List Routine) (s : State) (f g : State → Course) → GoesBelow f g → CourseBelow (processes_begun B vs us s f) (processes_begun F vs us s g)
  processes_below vs [] s f g h = h s
  processes_below vs (u ∷ us) s f g h =
      locals_below u u.spread (running u vs) (locals u) s (λ t. processes_begun B vs us t f) (λ t. processes_begun F vs us t g) (λ t. processes_below vs us t f g h)

  -- ---- the whole

  pub started_below : CourseBelow (started B) (started F)
  started_below =
      after_below (actors B) (actors F) _ _ (actors_below P)
      (λ vs. globals_below P.algorithm.globals nothing _ _
      (λ s. procedures_below vs (procedure_routines P.algorithm) s _ _
      (λ t. processes_below vs (main_routines P.algorithm P.algorithm.main) t _ _
      (λ u. course_same (ends (pc_begun F vs (stack_begun F (procedure_routines P.algorithm) vs u)))))))

  pub start_below : (ns : List ℕ) → ReplyBelow (start_by B ns) (start_by F ns)
  start_below ns = replied_below (λ s. s) P.algorithm.name.place (walk (started B) ns) (walk (started F) ns) (started_below ns)
