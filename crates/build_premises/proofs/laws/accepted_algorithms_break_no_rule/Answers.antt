-- Proves the law `accepted_algorithms_break_no_rule`.
use Rattle.translation.proofs.NamesApart.{writable}
use Rattle.build_premises.proofs.laws.accepted_algorithms_break_no_rule.Goals as goal

pub returns-clause-writable : goal.returns-clause-writable
returns-clause-writable c = writable

pub returns-clause-names : goal.returns-clause-names
returns-clause-names c = λ o g h. h.accepted.names

pub returns-clause-labels : goal.returns-clause-labels
returns-clause-labels c = λ o g h. h.accepted.labels
