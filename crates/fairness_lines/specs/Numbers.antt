-- Names by their numbers in an order.
use Rattle.std.specs.Prelude.{ℕ, List, [], ◌∷◌, position, bytes_eq, Option, Some, None}
use Rattle.std.specs.List.{flat_map}
use Rattle.tla_tree.specs.Tree.{Word}

abbrev pub listed : Option ℕ → List ℕ
listed None = []
listed (Some i) = i ∷ []

-- the number of a name that the order has
abbrev pub number_in : List Word → Word → List ℕ
number_in order x = listed (position (λ v. bytes_eq v x) order)

abbrev pub numbers_in : List Word → List Word → List ℕ
numbers_in order xs = flat_map (number_in order) xs
