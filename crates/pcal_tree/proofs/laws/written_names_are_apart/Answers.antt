-- Proves the law `written_names_are_apart`.
use Rattle.pcal_tree.specs.Names.{taken_at_start, wanted}
use Rattle.pcal_tree.proofs.FreeNames.{given_apart, given_untaken}
use Rattle.pcal_tree.proofs.FreeWords.{given_free}
use Rattle.pcal_tree.proofs.laws.written_names_are_apart.Goals as goal

pub returns-clause-apart : goal.returns-clause-apart
returns-clause-apart c = λ a o few. given_apart o.extended (taken_at_start a o) (wanted a) few

pub returns-clause-new : goal.returns-clause-new
returns-clause-new c = λ a o few. given_untaken o.extended (taken_at_start a o) (wanted a) few

pub returns-clause-untaken : goal.returns-clause-untaken
returns-clause-untaken c = λ a o few fair. given_free o.extended (taken_at_start a o) (wanted a) few fair
