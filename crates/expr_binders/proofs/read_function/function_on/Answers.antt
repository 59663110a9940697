-- Proves what is asked of `function_on`.
use Rattle.expr_rows.proofs.ReadCode.{told_after}
use Rattle.expr_binders.proofs.read_function.function_on.Goals as goal

pub returns-clause-read : goal.returns-clause-read
returns-clause-read g c = λ i q h. told_after _ _ _ _ _ (c.in_ok-bound.ensures.read i q h) (λ bs are. c.function_in.ensures.read bs are)
