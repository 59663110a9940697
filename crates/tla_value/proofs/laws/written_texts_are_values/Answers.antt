-- Proves the law `written_texts_are_values`.
use Rattle.tla_value.proofs.ValueCut.{value_in_text, value_alone_in_text, texts_apart}
use Rattle.tla_value.proofs.laws.written_texts_are_values.Goals as goal

pub returns-clause-spelled : goal.returns-clause-spelled
returns-clause-spelled c = value_in_text

pub returns-clause-only : goal.returns-clause-only
returns-clause-only c = value_alone_in_text

pub returns-clause-apart : goal.returns-clause-apart
returns-clause-apart c = texts_apart
