-- Worked examples of definitions whose bodies are numbers.
use Rattle.std.specs.Prelude.{◌≡◌, List, [], ◌∷◌, true, Some, None}
use Rattle.std.proofs.Common.{refl, arith, pos, Ok}
use Rattle.tla_token.specs.declared.place.Place.{Place}
use Rattle.tla_tree.specs.Tree.{Tree, node, no_trees, number, name}
use Rattle.tla_value.specs.declared.names.Definition.{Definition as Kept}
use Rattle.tla_value.specs.declared.names.Instance.{Instance}
use Rattle.tla_value.specs.Value.{int}
use Rattle.tla_value.specs.Stops.{plain}
use Rattle.tla_value.specs.Meaning.{eval}
use Rattle.tla_value.specs.Definitions.{no_state}
use Rattle.tla_value.specs.Defs.{definition_at, definitions_at, read_at, DefinitionsIn, HasName, IsLatest}
use Rattle.tla_value.specs.Instances.{scope_at}

abbrev here : Place
here = record { line = 1; col = 1 }

abbrev leaf : Tree
leaf = node (number 7) here no_trees

-- N == 7
abbrev n : Kept
n = record { name = 78 ∷ []; params = []; body = 0; outside = true; place = here }

abbrev trees : List Tree
trees = leaf ∷ []

a_body_is_the_tree_of_its_number : definition_at trees n ≡ record { title = 78 ∷ []; params = []; body = leaf; outside = true }
a_body_is_the_tree_of_its_number = refl

each_stands_for_its_own : definitions_at trees (n ∷ []) ≡ definition_at trees n ∷ []
each_stands_for_its_own = refl

it_has_the_place_of_its_name : read_at trees n ≡ record { definition = definition_at trees n; place = here }
it_has_the_place_of_its_name = refl

its_number_is_of_the_pool : DefinitionsIn 1 (n ∷ [])
its_number_is_of_the_pool = (omega arith, tt)

the_first_has_the_name : HasName (n ∷ []) (78 ∷ []) 0
the_first_has_the_name = refl

of_two_the_last_counts : IsLatest (78 ∷ []) (n ∷ n ∷ []) 2 (Some 1)
of_two_the_last_counts = (omega arith, refl, λ i a b h. omega (arith, a, b))

of_none_there_is_no_last : IsLatest (78 ∷ []) (n ∷ []) 0 None
of_none_there_is_no_last = λ i a h. omega (arith, a)

abbrev with_n : Instance
with_n = record { constants = []; defs = n ∷ [] }

a_name_means_what_its_body_means : (eval plain (node (name (78 ∷ [])) here no_trees) (scope_at plain trees with_n no_state no_state)).value ≡ Ok (int (pos 7))
a_name_means_what_its_body_means = refl
