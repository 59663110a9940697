-- Proves the law `each_text_is_read_or_refused`.
use Rattle.region_reading.proofs.AnswersRead.{answered, read_once, not_both}
use Rattle.region_reading.proofs.laws.each_text_is_read_or_refused.Goals as goal

pub returns-clause-one : goal.returns-clause-one
returns-clause-one c = answered

pub returns-clause-same : goal.returns-clause-same
returns-clause-same c = read_once

pub returns-clause-apart : goal.returns-clause-apart
returns-clause-apart c = not_both
