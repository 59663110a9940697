-- Proves the law `written_modules_are_read_back`.
use Rattle.region_reading.proofs.AnswersRead.{not_both}
use Rattle.module_reading.proofs.laws.written_modules_are_read_back.Goals as goal

pub returns-clause-read : goal.returns-clause-read
returns-clause-read c x w o r h k = (h.is.reads, k)

pub returns-clause-only : goal.returns-clause-only
returns-clause-only c x w o r h n k = h.only n k.0

pub returns-clause-taken : goal.returns-clause-taken
returns-clause-taken c x w o r h k q refused = not_both w h.is.written q (h.is.reads, k) refused
