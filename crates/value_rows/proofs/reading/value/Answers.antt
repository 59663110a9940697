-- Proves that the definitions are there when the expression is read too.
use Rattle.std.proofs.Common.{length, arith}
use Rattle.tla_value.proofs.DefsGrown.{DefinitionsIn-more}
use Rattle.value_rows.proofs.reading.value.Goals as goal

pub eval-requires-clause-defined : goal.eval-requires-clause-defined
eval-requires-clause-defined c =
    let kept = c.expression.ensures.kept in
    DefinitionsIn-more (length c.loop-one.pool) (length c.expression.new.pool) c.loop-one.defs (omega (arith, kept.longer)) c.loop-one.invariant
