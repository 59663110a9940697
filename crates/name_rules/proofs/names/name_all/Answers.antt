-- Proves that no offence is there where names are given.
use Rattle.std.proofs.Common.{sym, ◌∙◌}
use Rattle.name_rules.proofs.WholeLaws.{none_first}
use Rattle.name_rules.proofs.names.name_all.Goals as goal

pub returns-in_ok-written-in-None-clause-clean : goal.returns-in_ok-written-in-None-clause-clean
returns-in_ok-written-in-None-clause-clean c = none_first _ (sym c.in_ok-refusal.ensures.refusal ∙ c.in-None.is)
