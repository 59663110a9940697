-- What a start of an accepted algorithm ends in: an initial state.
use Rattle.std.specs.Prelude.{◌≡◌, ℕ, List, Ok}
use Rattle.tla_token.specs.declared.place.Place.{Place}
use Rattle.tla_value.specs.Definitions.{Valuation}
use Rattle.tla_value.specs.Outside.{Outside}
use Rattle.tla_value.specs.Stops.{Check}
use Rattle.tla_value.specs.Value.{Value}
use Rattle.pcal_tree.specs.Algorithm.{Algorithm}
use Rattle.pcal_tree.specs.Choices.{walk, went}
use Rattle.pcal_tree.specs.InitialChoice.{started}
use Rattle.pcal_tree.specs.InitialStates.{Initial}
use Rattle.pcal_tree.specs.Programs.{program_in}
use Rattle.pcal_tree.specs.Scope.{State}
use Rattle.translation.specs.laws.AcceptedAlgorithm.{IsAcceptedInFile}

-- a value that is within limits stays as it is
abbrev pub HandsOn : Check → Type 0
HandsOn c = (at : Place) (v w : Value) → c at v ≡ Ok w → w ≡ v

-- of a start that goes through, with the choices that are left over
abbrev pub StartsInitial : Check → Type 0
StartsInitial c = (o : Outside) (g : Algorithm) → IsAcceptedInFile o g → (values : Valuation) (ns ms : List ℕ) (t : State)
    → walk (started (program_in c o g values)) ns ≡ went t ms → Initial (program_in c o g values) t
