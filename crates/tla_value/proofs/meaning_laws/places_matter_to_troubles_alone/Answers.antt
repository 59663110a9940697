-- Proves the law `places_matter_to_troubles_alone`.
use Rattle.tla_value.proofs.Places.{eval_places, plain_places, bounded_places, bind_places, through_places, scope_places}
use Rattle.tla_value.proofs.meaning_laws.places_matter_to_troubles_alone.Goals as goal

pub returns-clause-outcome : goal.returns-clause-outcome
returns-clause-outcome c = eval_places

pub returns-clause-plain : goal.returns-clause-plain
returns-clause-plain c = plain_places

pub returns-clause-bounded : goal.returns-clause-bounded
returns-clause-bounded c = bounded_places

pub returns-clause-bound : goal.returns-clause-bound
returns-clause-bound c = bind_places

pub returns-clause-grafted : goal.returns-clause-grafted
returns-clause-grafted c = through_places

pub returns-clause-scope : goal.returns-clause-scope
returns-clause-scope c = scope_places
