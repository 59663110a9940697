-- Proves the law `enough_steps_are_enough`.
use Rattle.region_reading.proofs.EnoughSteps.{names_are, phrases_are, ways_are, specs_are, item_is, list_is, items_are, branches_are, any_shortens}
use Rattle.region_reading.proofs.laws.enough_steps_are_enough.Goals as goal

pub returns-clause-names : goal.returns-clause-names
returns-clause-names c = names_are

pub returns-clause-init : goal.returns-clause-init
returns-clause-init c = phrases_are

pub returns-clause-next : goal.returns-clause-next
returns-clause-next c = ways_are

pub returns-clause-spec : goal.returns-clause-spec
returns-clause-spec c = specs_are

pub returns-clause-item : goal.returns-clause-item
returns-clause-item c = item_is

pub returns-clause-list : goal.returns-clause-list
returns-clause-list c = list_is

pub returns-clause-items : goal.returns-clause-items
returns-clause-items c = items_are

pub returns-clause-branches : goal.returns-clause-branches
returns-clause-branches c = branches_are

pub returns-clause-any : goal.returns-clause-any
returns-clause-any c = any_shortens
