-- Proves the law `places_in_modules_matter_to_troubles_alone`.
use Rattle.module_tree.proofs.ModulePlaces.{truth_but_places}
use Rattle.module_tree.proofs.laws.places_in_modules_matter_to_troubles_alone.Goals as goal

pub returns : goal.returns
returns c = truth_but_places
