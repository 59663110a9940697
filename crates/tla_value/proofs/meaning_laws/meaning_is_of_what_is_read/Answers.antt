-- Proves the law `meaning_is_of_what_is_read`.
use Rattle.tla_value.specs.laws.Grafting.{In}
use Rattle.tla_value.proofs.FreeNames.{free_names, not_free}
use Rattle.tla_value.proofs.meaning_laws.meaning_is_of_what_is_read.Goals as goal

pub returns-clause-names : goal.returns-clause-names
returns-clause-names c = λ k u w t h e f r. free_names k (In u) (In w) t h e f r

pub returns-clause-others : goal.returns-clause-others
returns-clause-others c = not_free
