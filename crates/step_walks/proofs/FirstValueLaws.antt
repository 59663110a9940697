-- Where first values are evaluated alike, calls and starts are the same; and the rules of a step are those with the first values of calls as they are declared.
use Rattle.std.proofs.Common.{◌≡◌, ℕ, List, [], ◌∷◌, Bool, true, false, cond, bytes_eq, Some, inl, inr, refl, ap, Ok, Err}
use Rattle.std.specs.List.{AllByRecursion}
use Rattle.tla_token.specs.declared.place.Place.{Place}
use Rattle.tla_tree.specs.Tree.{Word, Tree}
use Rattle.tla_value.specs.Value.{Value, text, Outcome, ◌>>=◌, in_order}
use Rattle.tla_value.specs.Order.{seq_from}
use Rattle.tla_value.specs.Stops.{members_at}
use Rattle.tla_value.specs.Strict.{applied}
use Rattle.pcal_tree.specs.Algorithm.{Start, unset, equals, among, Declaration, Routine, locals, procedure_routines, main_routines}
use Rattle.pcal_tree.specs.Scope.{State, put}
use Rattle.pcal_tree.specs.Assign.{set_one, set_all}
use Rattle.pcal_tree.specs.Run.{Partner, no_partner, goto_partner, return_partner}
use Rattle.pcal_tree.specs.InitialChoice.{nothing}
use Rattle.pcal_tree.specs.InitialStates.{function_on, running, is_multiprocess}
use Rattle.pcal_tree.specs.Processes.{actors, OneOf}
use Rattle.pcal_tree.specs.Program.{Program, Actor, index, local_index, written}
use Rattle.pcal_tree.specs.Calls.{first_label, label_value, setting, all_read, frame, on_stack, argument_settings, initial_value, initial_place, variables_started, entered_keeping, entered, restored, values_left, replaced, finished, called_with, entered_at, routine_named, rules_without_macros}
use Rattle.pcal_tree.specs.Variables.{pc, stack, written_all}
use Rattle.step_walks.specs.FirstValues.{Evaluation, as_declared}
use Rattle.step_walks.specs.WrittenCalls.{first_value, variables_by, entered_keeping_by, entered_by, replaced_by, called_by, entered_at_by, rules_by}
use Rattle.step_walks.specs.Flows.{falls, onward, flowing, chosen}
use Rattle.step_walks.specs.StartFlows.{plain_flow, each_flow, values_flow, globals_flow, local_flow, locals_flow, procedures_flow, processes_flow, ready, parts_flow, start_by}
use Rattle.step_walks.specs.laws.FirstValues.{Alike, CallsAlike, SpreadAlike, LocalAlike, LocalsAlike, StartsAlike}

-- ---- calls

module _ (E : Evaluation) (P : Program) (v : Actor) where
  -- the first values of a routine's variables are those that are declared
  abbrev Declared : Routine → List Declaration → Type 0
  Declared p ds = AllByRecursion (λ d. Alike (E.inside v p) ((as_declared P).inside v p) d.start) ds

  value_declared : (p : Routine) (at : Place) (d : Start) → Alike (E.inside v p) ((as_declared P).inside v p) d → (s : State) → first_value E v p at d s ≡ initial_value P v p at d s
  value_declared p at unset h s = refl
  value_declared p at (equals e) h s = h s
  value_declared p at (among e) h s = refl

  variables_declared : (p : Routine) (at : Place) (ds : List Declaration) → Declared p ds → (s : State) → variables_by E P v p at ds s ≡ variables_started P v p at ds s
  variables_declared p at [] h s = refl
  variables_declared p at (d ∷ ds) h s = λ i. (value_declared p at d.start h.0 s i) >>= (λ w.
      (set_one P.check (setting (initial_place at d.start) (written P p d.name.word) (local_index v p) w) s) >>= (λ t. variables_declared p at ds h.1 t i))

  keeping_declared : (at : Place) (back : Value) (p : Routine) (places : List Place) (vs olds : List Value) → Declared p p.variables → (s : State)
      → entered_keeping_by E P v at back p places vs olds s ≡ entered_keeping P v at back p places vs olds s
  keeping_declared at back p places vs olds h s = λ i. (P.check at (frame P p back olds)) >>= (λ front.
      (on_stack v at s) >>= (λ frames.
      (P.check at (seq_from (front ∷ frames))) >>= (λ new.
      (set_all P.check (setting at stack (index v.self) new ∷ argument_settings (local_index v p) (written_all P p p.params) places vs) s) >>= (λ t.
      (variables_declared p at p.variables h t i) >>= (λ u. set_one P.check (setting at pc (index v.self) (label_value P p (first_label p))) u)))))

  entered_declared : (at : Place) (back : Value) (p : Routine) (places : List Place) (vs : List Value) → Declared p p.variables → (s : State) → entered_by E P v at back p places vs s ≡ entered P v at back p places vs s
  entered_declared at back p places vs h s = λ i. (all_read at (local_index v p) (written_all P p (locals p)) s) >>= (λ olds. keeping_declared at back p places vs olds h s i)

  replaced_declared : (at end : Place) (u p : Routine) (places : List Place) (vs fs : List Value) → Declared p p.variables → (s : State) → replaced_by E P v at end u p places vs fs s ≡ replaced P v at end u p places vs fs s
  replaced_declared at end u p places vs [] h s = refl
  replaced_declared at end u p places vs (front ∷ frames) h s = λ i. (applied end front (text pc)) >>= (λ back.
      (restored P v end u (front ∷ frames) s) >>= (λ t. (values_left P v at end u p front t) >>= (λ olds. keeping_declared at back p places vs olds h t i)))

  called_declared : (u : Routine) (at : Place) (p : Routine) (places : List Place) (vs : List Value) (l : Word) (j : Partner) → Declared p p.variables → (s : State)
      → called_by E P v u at p places vs l j s ≡ called_with P v u at p places vs l j s
  called_declared u at p places vs l no_partner h s = entered_declared at (label_value P u l) p places vs h s
  called_declared u at p places vs l (goto_partner m) h s = entered_declared at (label_value P u m) p places vs h s
  called_declared u at p places vs l (return_partner end) h s = λ i. (on_stack v end.first s) >>= (λ frames. replaced_declared at end.first u p places vs frames h s i)

  named_declared : (u : Routine) (at : Place) (x : Word) (us : List Routine) (places : List Place) (vs : List Value) (l : Word) (j : Partner) (s : State) → ((p : Routine) → OneOf p us → Declared p p.variables)
      → entered_at_by E P v u at (routine_named x us) places vs l j s ≡ entered_at P v u at (routine_named x us) places vs l j s
  named_declared u at x [] places vs l j s h = refl
  named_declared u at x (p ∷ us) places vs l j s h = by (named_declared u at x us places vs l j s (λ q m. h q (inr m))) (bytes_eq p.name.word x)
    where
      by : entered_at_by E P v u at (routine_named x us) places vs l j s ≡ entered_at P v u at (routine_named x us) places vs l j s → (b : Bool) → entered_at_by E P v u at (cond b (Some p) (routine_named x us)) places vs l j s ≡ entered_at P v u at (cond b (Some p) (routine_named x us)) places vs l j s
      by rest true = ap finished (called_declared u at p places vs l j (h p (inl refl)) s)
      by rest false = rest

-- where the first values of procedures' variables are those that are declared, so are the rules of a step
pub rules_declared : (E : Evaluation) (P : Program) (v : Actor) → CallsAlike E (as_declared P) v (procedure_routines P.algorithm) → (u : Routine) → rules_by E P v u ≡ rules_without_macros P v u
rules_declared E P v h u = λ i. record (rules_without_macros P v u) { call = λ at x places vs l j s. named_declared E P v u at x (procedure_routines P.algorithm) places vs l j s h i }

-- and they are those with first values as they are declared
pub rules_as_declared : (P : Program) (v : Actor) (u : Routine) → rules_by (as_declared P) P v u ≡ rules_without_macros P v u
rules_as_declared P v u = rules_declared (as_declared P) P v (λ p m. all p p.variables) u
  where
    one : (p : Routine) (d : Start) → Alike ((as_declared P).inside v p) ((as_declared P).inside v p) d
    one p unset = tt
    one p (equals e) = λ s. refl
    one p (among e) = λ s. refl

    all : (p : Routine) (ds : List Declaration) → AllByRecursion (λ d. Alike ((as_declared P).inside v p) ((as_declared P).inside v p) d.start) ds
    all p [] = tt
    all p (d ∷ ds) = (one p d.start, all p ds)

-- ---- starts

plain_alike : (f g : Tree → State → Outcome Value) (at : Place) (d : Start) → Alike f g d → (s : State) (ns : List ℕ) → plain_flow f at d s ns ≡ plain_flow g at d s ns
plain_alike f g at unset h s ns = refl
plain_alike f g at (equals e) h s ns = λ i. flowing (h s i) (λ v. falls v ns)
plain_alike f g at (among e) h s ns = λ i. flowing ((h s i) >>= (members_at at)) (λ ws. chosen at ws ns falls)

each_alike : (f g : Actor → Outcome Value) (vs : List Actor) → ((v : Actor) → OneOf v vs → f v ≡ g v) → in_order f vs ≡ in_order g vs
each_alike f g [] h = refl
each_alike f g (v ∷ vs) h = λ i. (h v (inl refl) i) >>= (λ w. (each_alike f g vs (λ x m. h x (inr m)) i) >>= (λ ws. Ok (w ∷ ws)))

module _ (E F : Evaluation) (P : Program) where
  values_alike : (u : Routine) (vs : List Actor) (at : Place) (d : Start) → SpreadAlike E F u vs d → (s : State) (ns : List ℕ) → values_flow E u vs at d s ns ≡ values_flow F u vs at d s ns
  values_alike u vs at unset h s ns = refl
  values_alike u vs at (equals e) h s ns = λ i. flowing (each_alike (λ v. E.inside v u e s) (λ v. F.inside v u e s) vs (λ v m. h v m s) i) (λ ws. falls ws ns)
  values_alike u vs at (among e) h s ns = λ i. flowing ((h s i) >>= (members_at at)) (λ ws. each_flow at ws vs ns)

  globals_alike : (ds : List Declaration) → AllByRecursion (λ d. Alike E.outside F.outside d.start) ds → (s : State) (ns : List ℕ) → globals_flow E ds s ns ≡ globals_flow F ds s ns
  globals_alike [] h s ns = refl
  globals_alike (d ∷ ds) h s ns = λ i. onward (plain_alike E.outside F.outside d.name.place d.start h.0 s ns i) (λ v ms. globals_alike ds h.1 (put d.name.word v s) ms i)

  local_alike : (u : Routine) (spread : Bool) (vs : List Actor) (d : Declaration) → LocalAlike E F u spread vs d.start → (s : State) (ns : List ℕ) → local_flow E P u spread vs d s ns ≡ local_flow F P u spread vs d s ns
  local_alike u true vs d h s ns = λ i. onward (onward (values_alike u vs d.name.place d.start h s ns i) (λ ws ms. flowing (P.check d.name.place (function_on vs ws)) (λ f. falls f ms)))
      (λ f ms. falls (put (written P u d.name.word) f s) ms)
  local_alike u false [] d h s ns = refl
  local_alike u false (v ∷ vs) d h s ns = λ i. onward (plain_alike (E.inside v u) (F.inside v u) d.name.place d.start (h v (inl refl)) s ns i) (λ w ms. falls (put (written P u d.name.word) w s) ms)

  locals_alike : (u : Routine) (spread : Bool) (vs : List Actor) (ds : List Declaration) → AllByRecursion (λ d. LocalAlike E F u spread vs d.start) ds → (s : State) (ns : List ℕ)
      → locals_flow E P u spread vs ds s ns ≡ locals_flow F P u spread vs ds s ns
  locals_alike u spread vs [] h s ns = refl
  locals_alike u spread vs (d ∷ ds) h s ns = λ i. onward (local_alike u spread vs d h.0 s ns i) (λ t ms. locals_alike u spread vs ds h.1 t ms i)

  procedures_alike : (vs : List Actor) (us : List Routine) → ((u : Routine) → OneOf u us → LocalsAlike E F u (is_multiprocess P.algorithm.main) vs) → (s : State) (ns : List ℕ)
      → procedures_flow E P vs us s ns ≡ procedures_flow F P vs us s ns
  procedures_alike vs [] h s ns = refl
  procedures_alike vs (u ∷ us) h s ns = λ i. onward (locals_alike u (is_multiprocess P.algorithm.main) vs (locals u) (h u (inl refl)) s ns i)
      (λ t ms. procedures_alike vs us (λ w m. h w (inr m)) t ms i)

  processes_alike : (vs : List Actor) (us : List Routine) → ((u : Routine) → OneOf u us → LocalsAlike E F u u.spread (running u vs)) → (s : State) (ns : List ℕ) → processes_flow E P vs us s ns ≡ processes_flow F P vs us s ns
  processes_alike vs [] h s ns = refl
  processes_alike vs (u ∷ us) h s ns = λ i. onward (locals_alike u u.spread (running u vs) (locals u) (h u (inl refl)) s ns i) (λ t ms. processes_alike vs us (λ w m. h w (inr m)) t ms i)

  -- where the first values of all declarations are evaluated alike
  pub start_alike : ((vs : List Actor) → actors P ≡ Ok vs → StartsAlike E F P.algorithm vs) → (ns : List ℕ) → start_by E P ns ≡ start_by F P ns
  start_alike h ns = by (actors P) refl
    where
      by : (o : Outcome (List Actor)) → actors P ≡ o → flowing o (parts_flow E P ns) ≡ flowing o (parts_flow F P ns)
      by (Err k) e = refl
      by (Ok vs) e =
          let all = h vs e in
          λ i. onward (globals_alike P.algorithm.globals all.globals nothing ns i) (λ s ms.
          onward (procedures_alike vs (procedure_routines P.algorithm) all.procedures s ms i) (λ t ls.
          onward (processes_alike vs (main_routines P.algorithm P.algorithm.main) all.processes t ls i) (λ u ks. falls (ready P vs u) ks)))
