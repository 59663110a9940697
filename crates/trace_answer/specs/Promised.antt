-- What `trace` promises where all states are shown: Init, as `translate` writes it for the module, is true of the first state, and Next of each pair. So they are in each
-- text that translates the module, where nothing faults: of other states a translation says nothing.
use Rattle.std.specs.Prelude.{◌≡◌, ℕ, true, List, [], ◌∷◌, Ok}
use Rattle.tla_token.specs.declared.place.Place.{Place}
use Rattle.tla_value.specs.declared.fault.FaultKind.{FaultKind}
use Rattle.tla_value.specs.Stops.{plain}
use Rattle.tla_value.specs.Definitions.{Valuation}
use Rattle.pcal_tree.specs.InitialStates.{InitFault}
use Rattle.pcal_tree.specs.Program.{Program}
use Rattle.pcal_tree.specs.Scope.{State}
use Rattle.pcal_tree.specs.Variables.{on_variables}
use Rattle.module_tree.specs.Module.{Module}
use Rattle.module_tree.specs.ModuleTruth.{init_holds}
use Rattle.module_tree.specs.Reading.{Reads}
use Rattle.module_tree.specs.TextFront.{Text}
use Rattle.promise.specs.ConstantsAndStates.{program}
use Rattle.promise.specs.Headline.{Headline}
use Rattle.promise.specs.Options.{Options}
use Rattle.translation.specs.PromiseWhole.{WrittenWhole}
use Rattle.step_runner.specs.Config.{constants_of}
use Rattle.step_runner.specs.Shown.{trace_text}
use Rattle.run_answer.specs.Chosen.{Files, algorithm_in}
use Rattle.run_answer.specs.Promised.{TrueNext, TruePairs}
use Rattle.trace_answer.specs.Traced.{Given, traced_program, states_in, module_for}

-- of each state and the next one
abbrev pub AllTruePairs : Module → Program → Valuation → State → List State → Type 0
AllTruePairs m P values s [] = Unit {0}
AllTruePairs m P values s (t ∷ ts) = TrueNext m P values s t × AllTruePairs m P values t ts

-- without limits
abbrev pub AreAllTrue : Module → Program → Valuation → List State → Type 0
AreAllTrue m P values [] = ⊥
AreAllTrue m P values (s ∷ ts) = (init_holds plain m values (on_variables P s) ≡ Ok true) × AllTruePairs m P values s ts

-- where no initial value is a fault, and of each pair whose first state is sound
abbrev pub AreTrueUnlessFaulty : Module → Program → Valuation → List State → Type 0
AreTrueUnlessFaulty m P values [] = ⊥
AreTrueUnlessFaulty m P values (s ∷ ts) =
    (((kind : FaultKind) (at : Place) → InitFault P s kind at → ⊥) → init_holds plain m values (on_variables P s) ≡ Ok true) × TruePairs m P values s ts

-- the text w shows all states of the trace, each with the step that leads to it; what `translate` writes for the module is true of them, and each translation of the
-- module is where nothing faults
pub record KeepsTrace (options : Options) (f : Files) (w : Text) : Type 0 where
  pub given : Given options.label f
  pub text : (title : List ℕ) → w ≡ trace_text (traced_program given) (module_for options.no_terminating title given) (constants_of given.constants) (states_in given)
  pub holds : (y : Text) (m : Module) → WrittenWhole options f.source y → Reads y m
      → AreAllTrue m (program (algorithm_in given.right) m (constants_of given.constants)) (constants_of given.constants) (states_in given)
  pub others : (y : Text) (h : Headline options f.source y)
      → AreTrueUnlessFaulty h.translates.module_of (program (algorithm_in given.right) h.translates.module_of (constants_of given.constants)) (constants_of given.constants) (states_in given)
