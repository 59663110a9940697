-- What stands for the names of a routine of a program ("A PlusCal User's Manual", section 4, on names in the translation).
use Rattle.std.specs.Prelude.{◌≡◌}
use Rattle.tla_value.specs.Grafts.{owned}
use Rattle.module_tree.specs.Formulas.{self}
use Rattle.pcal_tree.specs.Algorithm.{Routine}
use Rattle.pcal_tree.specs.Program.{Program}
use Rattle.action_builder.specs.WrittenNames.{renames}
use Rattle.action_builder.specs.OwnVariables.{is_own_variable}
use Rattle.running.specs.declared.places.Places.{Places}
use Rattle.running.specs.Prepared.{names_put, own_put}

-- the written names of what u declares, and the variables that each process of P has for itself
pub record IsPlaces (p : Places) (P : Program) (u : Routine) : Type 0 where
  pub names : names_put p.local ≡ renames P u
  pub own : own_put p.own ≡ owned self (is_own_variable P)
