-- The limits of a run change no variable: a state is the same values of them under limits and without.
use Rattle.std.proofs.Common.{◌≡◌, List, [], ◌∷◌, ◌++◌, cond, Some, None, refl, ap}
use Rattle.tla_token.specs.Signs.{is_among}
use Rattle.tla_tree.specs.Tree.{Word}
use Rattle.tla_value.specs.Definitions.{Valuation}
use Rattle.tla_value.specs.Stops.{Check}
use Rattle.tla_value.specs.Outside.{Outside}
use Rattle.pcal_tree.specs.Algorithm.{Algorithm, Routine, locals, procedure_routines, main_routines}
use Rattle.pcal_tree.specs.Program.{Program}
use Rattle.pcal_tree.specs.Programs.{program_in}
use Rattle.pcal_tree.specs.Scope.{State}
use Rattle.pcal_tree.specs.Variables.{pc, declared, stack_for, written_all, written_by_all, vars, on_variables}

-- nor do the values of constants
module _ (c d : Check) (o : Outside) (g : Algorithm) (values others : Valuation) where
  abbrev L : Program
  L = program_in c o g values

  abbrev R : Program
  R = program_in d o g others

  written_alike : (us : List Routine) → written_by_all L us ≡ written_by_all R us
  written_alike [] = refl
  written_alike (u ∷ us) = ap (λ xs. written_all R u (locals u) ++ xs) (written_alike us)

  pub variables_alike : vars L ≡ vars R
  variables_alike =
      λ i. declared g.globals ++ (pc ∷ stack_for (procedure_routines g)) ++ written_alike (procedure_routines g) i ++ written_alike (main_routines g g.main) i

abbrev on_names : List Word → State → Valuation
on_names xs s x = cond (is_among xs x) (Some (s x)) None

-- where the variables are the same, the values are
pub values_alike : (P Q : Program) → vars P ≡ vars Q → (s : State) → on_variables P s ≡ on_variables Q s
values_alike P Q e s = ap (λ xs. on_names xs s) e
