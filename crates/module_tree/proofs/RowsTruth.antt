-- What the first algorithm's module says of some pairs of states, by computation.
use Rattle.std.proofs.Common.{◌≡◌, refl, Ok, Err}
use Rattle.std.specs.Prelude.{[], ◌∷◌, pos, true, false, Some, None, codes, bytes_eq, cond}
use Rattle.tla_tree.specs.Tree.{Word}
use Rattle.tla_value.specs.declared.fault.FaultKind.TheVariants.{NotInteger}
use Rattle.tla_value.specs.Value.{Value, truth, int, text, fault}
use Rattle.tla_value.specs.Stops.{plain}
use Rattle.tla_value.specs.Definitions.{Valuation, no_state}
use Rattle.module_tree.specs.Module as tree
use Rattle.module_tree.specs.ActionTruth.{Verdict, item_holds}
use Rattle.module_tree.specs.ModuleTruth.{scope, next_holds, init_holds}
use Rattle.module_tree.specs.ProcessPart.{mine_holds}
use Rattle.module_tree.proofs.First.{x, pc, here, first}

-- the state with these values of x and pc
abbrev at : Value → Word → Valuation
at v l y = cond (bytes_eq y x) (Some v) (cond (bytes_eq y pc) (Some (text l)) None)

abbrev next : Valuation → Valuation → Verdict
next s t = next_holds plain first no_state s t

a_step : next (at (int (pos 0)) (codes "A")) (at (int (pos 1)) (codes "Done")) ≡ Ok true
a_step = refl

the_end : next (at (int (pos 1)) (codes "Done")) (at (int (pos 1)) (codes "Done")) ≡ Ok true
the_end = refl

no_step : next (at (int (pos 0)) (codes "A")) (at (int (pos 0)) (codes "A")) ≡ Ok false
no_step = refl

a_fault : next (at (truth true) (codes "A")) (at (truth true) (codes "Done")) ≡ Err (fault NotInteger here)
a_fault = refl

initial : init_holds plain first no_state (at (int (pos 0)) (codes "A")) ≡ Ok true
initial = refl

not_initial : init_holds plain first no_state (at (int (pos 5)) (codes "A")) ≡ Ok false
not_initial = refl

ended_is_no_step : mine_holds plain first no_state (at (int (pos 1)) (codes "Done")) (at (int (pos 1)) (codes "Done")) None ≡ Ok false
ended_is_no_step = refl

-- nothing is unchanged that has no value: y is no variable
abbrev unchanged : Word → Verdict
unchanged z = item_holds plain (at (int (pos 0)) (codes "A")) (at (int (pos 0)) (codes "A")) (scope plain first no_state no_state no_state) (tree.unchanged (z ∷ []))

the_variable : unchanged x ≡ Ok true
the_variable = refl

no_variable : unchanged (codes "y") ≡ Ok false
no_variable = refl
