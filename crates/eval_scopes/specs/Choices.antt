-- A binder's names in a row, each with the members that it goes over, and a choice of them by an index for each name.
use Rattle.std.specs.Prelude.{ℕ, zero, suc, Option, Some, None, slice_get, List, [], ◌∷◌, ◌++◌}
use Rattle.std.specs.Coded.{Coded, coded_list, coded×, coded_ℕ}
use Rattle.tla_tree.specs.Tree.{Word}
use Rattle.tla_value.specs.Code.{value_code}
use Rattle.tla_value.specs.Value.{Value}
use Rattle.tla_value.specs.Meaning.{Env, bind}

-- names, each with the members that it stands for in turn
abbrev pub Over : Type 0
Over = List (Word × List Value)

pub over_code : Coded (Word × List Value)
over_code = coded× (coded_list coded_ℕ) (coded_list value_code)

-- where names are bound, and to which members
abbrev pub Spot : Type 0
Spot = Env × List Value

-- no name of a binder is bound yet
abbrev pub unbound : Env → Spot
unbound env = (env, [])

abbrev pub stepped : Word → Value → Spot → Spot
stepped x v s = (bind x v s.0, s.1 ++ v ∷ [])

abbrev pub stepping : Word → Option Value → Spot → Spot
stepping x None s = s
stepping x (Some v) s = stepped x v s

-- the member before the next one
abbrev pub chosen_one : Word → List Value → ℕ → Spot → Spot
chosen_one x vs zero s = s
chosen_one x vs (suc k) s = stepping x (slice_get vs k) s

abbrev pub chosen : Over → List ℕ → Spot → Spot
chosen (o ∷ more) (k ∷ left) s = chosen more left (chosen_one o.0 o.1 k s)
chosen _ _ s = s

-- ---- the members to which the names of a choice are bound

abbrev pub picked_at : List Value → ℕ → Option Value
picked_at vs zero = None
picked_at vs (suc k) = slice_get vs k

abbrev pub with_option : Option Value → List Value → List Value
with_option None vs = vs
with_option (Some v) vs = v ∷ vs

abbrev pub members_of_choice : Over → List ℕ → List Value
members_of_choice (o ∷ os) (k ∷ ks) = with_option (picked_at o.1 k) (members_of_choice os ks)
members_of_choice _ _ = []
