-- Proves what is asked of `write_expressions`.
use Rattle.std.proofs.Common.{get_or, arith}
use Rattle.tla_write.proofs.OneMore.{parted_more}
use Rattle.syntax_print.proofs.Commas.{expressions_parted}
use Rattle.tla_tree.proofs.PoolNumbers.{past_at, same_default}
use Rattle.pcal_tree.specs.InMemory.{past_number}
use Rattle.syntax_print.proofs.write_part.write_expressions.Goals as goal

pub write_expr-requires : goal.write_expr-requires
write_expr-requires c = (let one = past_at past_number c.args.es.now c.loop-i.i (get_or c.args.es.now c.loop-i.i 0) (same_default c.args.es.now c.loop-i.i 0 (get_or c.args.es.now c.loop-i.i 0) c.loop-i-test.true) c.loop-i-test.true in omega (arith, one, c.requires))

pub loop-i-preserved : goal.loop-i-preserved
loop-i-preserved c =
    parted_more _ _ _ (expressions_parted c.args.pool.now) c.args.into.now c.loop-i.into c.write_between.new.into c.write_expr.new.into c.args.es.now c.loop-i.i (get_or c.args.es.now c.loop-i.i 0)
    (same_default c.args.es.now c.loop-i.i 0 (get_or c.args.es.now c.loop-i.i 0) c.loop-i-test.true) c.loop-i-test.true c.loop-i.invariant c.in_ok-write_between.ensures c.in_ok-write_expr.ensures.ok
