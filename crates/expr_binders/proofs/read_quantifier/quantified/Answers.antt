-- Proves what is asked of `quantified`.
use Rattle.expr_binders.proofs.read_quantifier.quantified.Goals as goal

pub returns-then-every-clause-read : goal.returns-then-every-clause-read
returns-then-every-clause-read c = rw (c.if-every.true) c.for_all.ensures.read

pub returns-else-every-clause-read : goal.returns-else-every-clause-read
returns-else-every-clause-read c = rw (c.if-every.false) c.exists.ensures.read
