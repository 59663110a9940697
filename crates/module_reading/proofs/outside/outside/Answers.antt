-- What was read is of the pool.
use Rattle.std.proofs.lemmas.Result.{IfOk-weaker}
use Rattle.module_reading.proofs.outside.outside.Goals as goal

pub returns-clause-within : goal.returns-clause-within
returns-clause-within c = IfOk-weaker c.as_outside.result _ _ (λ o h. h _ c.in_ok-found.ensures.held) c.as_outside.ensures.within
