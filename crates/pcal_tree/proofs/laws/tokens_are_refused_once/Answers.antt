-- Proves the law `tokens_are_refused_once`.
use Rattle.pcal_tree.proofs.RefusedOnce.{refused_once, passes_or_refused}
use Rattle.pcal_tree.proofs.laws.tokens_are_refused_once.Goals as goal

pub returns-clause-once : goal.returns-clause-once
returns-clause-once c = refused_once

pub returns-clause-not_both : goal.returns-clause-not_both
returns-clause-not_both c = passes_or_refused
