-- Proves the law `macros_are_looked_at_once`.
use Rattle.pcal_tree.specs.OffencesSteps.{call_effect}
use Rattle.pcal_tree.specs.laws.MacroSummaries.{summaries, summary_effect}
use Rattle.pcal_tree.proofs.SetLaws.{among_same}
use Rattle.pcal_tree.proofs.SummaryLaws.{calls_agree}
use Rattle.pcal_tree.proofs.EffectLaws.{offences_by_summaries}
use Rattle.pcal_tree.proofs.EffectLabels.{labelled_by_summaries}
use Rattle.pcal_tree.proofs.laws.macros_are_looked_at_once.Goals as goal

pub returns-clause-assigns : goal.returns-clause-assigns
returns-clause-assigns c = λ ms m ts x. among_same (call_effect ms m ts).variables (summary_effect (summaries ms) m ts).variables (calls_agree ms m ts).0 x

pub returns-clause-twice : goal.returns-clause-twice
returns-clause-twice c = λ ms m ts. (calls_agree ms m ts).1

pub returns-clause-offences : goal.returns-clause-offences
returns-clause-offences c = offences_by_summaries

pub returns-clause-labels : goal.returns-clause-labels
returns-clause-labels c = labelled_by_summaries
