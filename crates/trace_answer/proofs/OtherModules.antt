-- What is true by the written module, under the limits of a run, is true by each module that keeps the promise of a translation, where nothing faults.
use Rattle.std.proofs.Common.{◌≡◌, Bool, true, List, [], ◌∷◌, map, refl, sym, ap, subst, ◌∙◌, Ok, Err}
use Rattle.tla_token.specs.declared.place.Place.{Place}
use Rattle.tla_tree.specs.Tree.{Word}
use Rattle.tla_value.specs.declared.fault.FaultKind.{FaultKind}
use Rattle.tla_value.specs.Definitions.{Valuation}
use Rattle.tla_value.specs.Limits.{bounded}
use Rattle.tla_value.specs.Order.{IsCanonical}
use Rattle.tla_value.specs.Outside.{Outside}
use Rattle.tla_value.specs.States.{Entries}
use Rattle.tla_value.specs.Stops.{plain}
use Rattle.tla_value.specs.Value.{Outcome, TrueExactly}
use Rattle.tla_value.specs.laws.UnderLimits.{Below}
use Rattle.tla_value.proofs.Outcomes.{ok_is}
use Rattle.pcal_tree.specs.Algorithm.{Algorithm}
use Rattle.pcal_tree.specs.Faults.{Sound}
use Rattle.pcal_tree.specs.InitialStates.{Initial, InitFault}
use Rattle.pcal_tree.specs.Processes.{actors, Proper}
use Rattle.pcal_tree.specs.Program.{Program, Actor}
use Rattle.pcal_tree.specs.Programs.{program_in}
use Rattle.pcal_tree.specs.Scope.{State}
use Rattle.pcal_tree.specs.Variables.{on_variables}
use Rattle.module_tree.specs.Module.{Module}
use Rattle.module_tree.specs.ModuleTruth.{init_holds}
use Rattle.module_tree.specs.laws.Outsides.{SameOutside}
use Rattle.promise.specs.ConstantsAndStates.{program, AreConstants}
use Rattle.promise.specs.NextAndInit.{Moves, NextIs, InitIs}
use Rattle.translation.specs.Region.{written_module}
use Rattle.translation.specs.laws.AcceptedAlgorithm.{IsAcceptedInFile}
use Rattle.translation.proofs.NextLaw.{kept_law}
use Rattle.translation.proofs.SameProgram.{same_program}
use Rattle.run_answer.proofs.Steps.{actors_below}
use Rattle.run_answer.specs.Promised.{TrueNext, TruePairs}
use Rattle.step_runner.specs.Explained.{state_of}
use Rattle.step_runner.specs.Trace.{AreSome}
use Rattle.trace_answer.specs.Promised.{AreTrueUnlessFaulty}
use Rattle.trace_answer.proofs.ReadTruth.{next_true, init_true}
use Rattle.trace_answer.proofs.States.{AreCanonicalStates, is_state}
use Rattle.trace_answer.proofs.Whole.{InitTrue, NextTrue, PairsTrue, StatesTrue}

truth_of : (v : Outcome Bool) (A : Type 0) → TrueExactly v A → A → v ≡ Ok true
truth_of v A (b, e, w) a = e ∙ ap Ok (w.1 a)

so_is : (v : Outcome Bool) (A : Type 0) → TrueExactly v A → v ≡ Ok true → A
so_is v A (b, e, w) t = w.0 (ok_is (sym e ∙ t))

own_outside : (o : Outside) → SameOutside o o
own_outside o = record { extended = refl; constants = refl; definitions = refl; opaque = refl }

abbrev Canonical : State → Type 0
Canonical s = (x : Word) → IsCanonical (s x)

-- of an accepted algorithm, and a module whose Next and Init say what it does
module _ (b : Bool) (title : Word) (o : Outside) (g : Algorithm) (accepted : IsAcceptedInFile o g) (values : Valuation) (m : Module) (same : SameOutside o m.outside) (next : NextIs b g m) (init : InitIs g m) (kept : AreConstants m values)
    (own : AreConstants (written_module b title o g) values) where
  abbrev W : Module
  W = written_module b title o g

  abbrev B : Program
  B = program_in bounded o g values

  abbrev F : Program
  F = program_in plain o g values

  abbrev Q : Program
  Q = program g m values

  one : F ≡ Q
  one = same_program o g m same values

  -- the written module keeps the promise
  written_laws : NextIs b g W × InitIs g W
  written_laws = kept_law b o g W accepted (own_outside o) refl

  proper_without : Proper B → Proper F
  proper_without (vs, e) = by (actors B) e (actors_below F)
    where
      by : (a : Outcome (List Actor)) → a ≡ Ok vs → Below a (actors F) → Proper F
      by (Ok us) e h = (us, sym h)
      by (Err k) e h = (let f : ◌≡◌ {A = Outcome (List Actor)} (Err k) (Ok vs) = e in absurd cc)

  next_there : (s t : State) → Canonical s → Canonical t → NextTrue B W values s t → Sound Q s → TrueNext m Q values s t
  next_there s t is it h sound =
      let here = next_true b title o g values W (own_outside o) refl s t h in
      let moves : Moves b F s t = so_is _ (Moves b F s t) (written_laws.0 values s t own (is_state F s is) (is_state F t it) (subst (λ (P : Program). Sound P s) (sym one) sound)) here in
      truth_of _ (Moves b Q s t) (next values s t kept (is_state Q s is) (is_state Q t it) sound) (subst (λ (P : Program). Moves b P s t) one moves)

  init_there : Proper B → (s : State) → Canonical s → InitTrue B W values s → ((kind : FaultKind) (at : Place) → InitFault Q s kind at → ⊥) → init_holds plain m values (on_variables Q s) ≡ Ok true
  init_there proper s is h fine =
      let here = init_true b title o g values W (own_outside o) refl s h in
      let p = proper_without proper in
      let fine_here : (kind : FaultKind) (at : Place) → InitFault F s kind at → ⊥ = λ kind at f. fine kind at (subst (λ (P : Program). InitFault P s kind at) one f) in
      let initial : Initial F s = so_is _ (Initial F s) (written_laws.1 values s own (is_state F s is) p fine_here) here in
      truth_of _ (Initial Q s) (init values s kept (is_state Q s is) (subst Proper one p) fine) (subst (λ (P : Program). Initial P s) one initial)

  pairs_there : (s : State) (ts : List State) → Canonical s → AreCanonicalStates ts → PairsTrue B W values s ts → TruePairs m Q values s ts
  pairs_there s [] is them h = tt
  pairs_there s (t ∷ ts) is them h = (next_there s t is them.0 h.0, pairs_there t ts them.0 them.1 h.1)

  pub states_there : Proper B → (es : List Entries) → AreSome es → AreCanonicalStates (map state_of es) → StatesTrue B W values (map state_of es) → AreTrueUnlessFaulty m Q values (map state_of es)
  states_there proper [] some them h = absurd some
  states_there proper (e ∷ es) some them h = (init_there proper (state_of e) them.0 h.0, pairs_there (state_of e) (map state_of es) them.0 them.1 h.1)
