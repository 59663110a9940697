-- Proves the law `places_in_items_matter_to_faults_alone`.
use Rattle.module_tree.proofs.ItemPlaces.{items_agree}
use Rattle.action_builder.proofs.laws.places_in_items_matter_to_faults_alone.Goals as goal

pub returns : goal.returns
returns c = items_agree
