-- Proves the law `expressions_are_refused_once`.
use Rattle.tla_tree.proofs.StopLaws.{refused_once}
use Rattle.tla_tree.proofs.laws.expressions_are_refused_once.Goals as goal

pub returns : goal.returns
returns c = refused_once
