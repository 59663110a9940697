-- Proves that the body of one more definition is a number of the pool.
use Rattle.std.proofs.Common.{length, sym, subst, arith}
use Rattle.tla_value.specs.Defs.{DefinitionsIn}
use Rattle.tla_value.proofs.DefsGrown.{DefinitionsIn-more}
use Rattle.value_rows.proofs.DefinitionLaws.{one_more}
use Rattle.value_rows.proofs.reading.add_definition.Goals as goal

pub returns : goal.returns
returns c =
    let kept = c.in_ok-body.ensures.kept in
    let m = length c.expression.new.pool in
    subst (DefinitionsIn m) (sym c.in_ok-push.ensures.ok)
    (one_more m c.args.defs.now _ (DefinitionsIn-more (length c.args.pool.now) m c.args.defs.now (omega (arith, kept.longer)) c.requires) c.in_ok-body.ensures.within)
