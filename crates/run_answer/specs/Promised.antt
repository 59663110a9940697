-- What `run` promises where a script is followed to its end: the text is that of a run of the algorithm by the script, the first state makes the
-- written Init true, and each pair of states whose first one is sound makes the written Next true.
use Rattle.std.specs.Prelude.{◌≡◌, Bool, true, List, [], ◌∷◌, Ok}
use Rattle.tla_value.specs.Stops.{plain}
use Rattle.tla_value.specs.Definitions.{Valuation}
use Rattle.pcal_tree.specs.Faults.{Sound}
use Rattle.pcal_tree.specs.Program.{Program}
use Rattle.pcal_tree.specs.Scope.{State}
use Rattle.pcal_tree.specs.Script.{RunOf}
use Rattle.pcal_tree.specs.Variables.{on_variables}
use Rattle.module_tree.specs.Module.{Module}
use Rattle.module_tree.specs.ModuleTruth.{next_holds, init_holds}
use Rattle.module_tree.specs.TextFront.{Text}
use Rattle.promise.specs.ConstantsAndStates.{program}
use Rattle.promise.specs.Headline.{Headline}
use Rattle.step_runner.specs.Config.{constants_of}
use Rattle.step_runner.specs.Shown.{run_text}
use Rattle.run_answer.specs.Chosen.{Files, Chosen, algorithm_in, program_of}

-- Next is true of the pair
abbrev pub TrueNext : Module → Program → Valuation → State → State → Type 0
TrueNext m P values s t = next_holds plain m values (on_variables P s) (on_variables P t) ≡ Ok true

-- of each state from which nothing faults and the next one
abbrev pub TruePairs : Module → Program → Valuation → State → List State → Type 0
TruePairs m P values s [] = Unit {0}
TruePairs m P values s (t ∷ ts) = (Sound P s → TrueNext m P values s t) × TruePairs m P values t ts

-- Init is true of the first state, and Next of the pairs; the values of the constants and the states are those of a run without limits
abbrev pub AreTrue : Module → Program → Valuation → List State → Type 0
AreTrue m P values [] = ⊥
AreTrue m P values (s ∷ ts) = (init_holds plain m values (on_variables P s) ≡ Ok true) × TruePairs m P values s ts

-- the text w shows a run by the script, and what is written for the module by `translate` is true of it
pub record KeepsRun (forced : Bool) (f : Files) (w : Text) : Type 0 where
  pub chosen : Chosen forced f
  pub states : List State
  pub text : w ≡ run_text (program_of chosen) chosen.script.turns states
  pub run : RunOf (program_of chosen) chosen.script.choices chosen.script.turns states
  pub holds : (no_terminating : Bool) (y : Text) (h : Headline (record { label = forced; no_terminating = no_terminating }) f.source y)
      → AreTrue h.translates.module_of (program (algorithm_in chosen.right) h.translates.module_of (constants_of chosen.constants)) (constants_of chosen.constants) states
