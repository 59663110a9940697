-- What the module's Next and Init are to say: where nothing faults, they are true just of the algorithm's steps and of its initial states
-- ("A PlusCal User's Manual", section 3; "Specifying Systems", sections 2.3 and 16).
use Rattle.std.specs.Prelude.{◌⊎◌, Bool, true, false}
use Rattle.tla_token.specs.declared.place.Place.{Place}
use Rattle.tla_value.specs.declared.fault.FaultKind.{FaultKind}
use Rattle.tla_value.specs.Value.{TrueExactly}
use Rattle.tla_value.specs.Stops.{plain}
use Rattle.tla_value.specs.Definitions.{Valuation}
use Rattle.pcal_tree.specs.Algorithm.{Algorithm}
use Rattle.pcal_tree.specs.Scope.{State}
use Rattle.pcal_tree.specs.Program.{Program}
use Rattle.pcal_tree.specs.Processes.{Proper}
use Rattle.pcal_tree.specs.Faults.{Sound}
use Rattle.pcal_tree.specs.Step.{Step, Stutters}
use Rattle.pcal_tree.specs.InitialStates.{Initial, InitFault}
use Rattle.pcal_tree.specs.Variables.{on_variables}
use Rattle.module_tree.specs.Module.{Module}
use Rattle.module_tree.specs.ModuleTruth.{next_holds, init_holds}
use Rattle.promise.specs.ConstantsAndStates.{program, AreConstants, IsState}

-- some process steps, or, without the option `--no-terminating`, all are done and nothing changes
abbrev pub Moves : Bool → Program → State → State → Type 0
Moves true P s t = Step P s t
Moves false P s t = Step P s t ⊎ Stutters P s t

-- for all constants and sound states Next is true of a pair exactly where that is so; else it is false, and it is never a fault
abbrev pub NextIs : Bool → Algorithm → Module → Type 0
NextIs no_terminating g m =
    (values : Valuation) (s t : State) → AreConstants m values → IsState (program g m values) s → IsState (program g m values) t
    → Sound (program g m values) s →
    TrueExactly (next_holds plain m values (on_variables (program g m values) s) (on_variables (program g m values) t))
    (Moves no_terminating (program g m values) s t)

-- for all proper constants and states from which no initial value is a fault Init is true exactly of the initial ones, else false
abbrev pub InitIs : Algorithm → Module → Type 0
InitIs g m =
    (values : Valuation) (s : State) → AreConstants m values → IsState (program g m values) s → Proper (program g m values)
    → ((kind : FaultKind) (at : Place) → InitFault (program g m values) s kind at → ⊥) →
    TrueExactly (init_holds plain m values (on_variables (program g m values) s)) (Initial (program g m values) s)
