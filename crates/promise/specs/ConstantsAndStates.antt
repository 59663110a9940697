-- The labelled algorithm and the module under one meaning: the values of its constants, and states as values of the written variables
-- ("A PlusCal User's Manual", section 3; values in canonical order, "Specifying Systems", sections 16.1.6 to 16.1.10).
use Rattle.std.specs.Prelude.{◌≡◌, List, ◌∷◌, Some, None, codes, is_some, false}
use Rattle.std.specs.Bool.{IsTrue}
use Rattle.tla_token.specs.Signs.{is_among}
use Rattle.tla_tree.specs.Tree.{Word, Each, words}
use Rattle.tla_value.specs.Value.{Value}
use Rattle.tla_value.specs.Order.{IsCanonical}
use Rattle.tla_value.specs.Stops.{Check, plain}
use Rattle.tla_value.specs.Definitions.{Valuation, no_state}
use Rattle.pcal_tree.specs.Algorithm.{Algorithm}
use Rattle.pcal_tree.specs.Scope.{State}
use Rattle.pcal_tree.specs.Program.{Program}
use Rattle.pcal_tree.specs.Programs.{program_in}
use Rattle.pcal_tree.specs.Variables.{vars}
use Rattle.pcal_tree.specs.Calls.{defaultInitValue}
use Rattle.module_tree.specs.Module.{Module}

-- the labelled algorithm g with its written names in the module m, for these constants, under the limits of a run
abbrev pub program_under : Check → Algorithm → Module → Valuation → Program
program_under c g m values = program_in c m.outside g values

-- without limits
abbrev pub program : Algorithm → Module → Valuation → Program
program = program_under plain

-- the written names of the algorithm's variables, in their order; no constant counts here
abbrev pub variables_of : Algorithm → Module → List Word
variables_of g m = vars (program g m no_state)

-- ---- constants

-- a value for each constant that is read, for `defaultInitValue` the model value of that name, and for nothing else; sets and functions are in
-- canonical order
pub record AreConstants (m : Module) (values : Valuation) : Type 0 where
  pub unset : values (codes "defaultInitValue") ≡ Some defaultInitValue
  pub given : Each (λ x. IsTrue (is_some (values x))) (words m.outside.constants)
  pub no_other : (x : Word) → is_among (codes "defaultInitValue" ∷ words m.outside.constants) x ≡ false → values x ≡ None
  pub canonical : (x : Word) (v : Value) → values x ≡ Some v → IsCanonical v

-- ---- states

-- the values of the variables are in canonical order
abbrev pub IsState : Program → State → Type 0
IsState P s = Each (λ x. IsCanonical (s x)) (vars P)
