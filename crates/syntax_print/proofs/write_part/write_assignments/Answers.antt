-- Proves what is asked of `write_assignments`.
use Rattle.std.proofs.Common.{get_or, arith}
use Rattle.tla_write.proofs.OneMore.{parted_more}
use Rattle.syntax_print.proofs.Commas.{assignments_parted}
use Rattle.tla_tree.proofs.PoolNumbers.{past_at, same_default}
use Rattle.pcal_tree.specs.InMemory.{past_assignment}
use Rattle.syntax_print.proofs.write_part.write_assignments.Goals as goal

pub write_assignment-requires : goal.write_assignment-requires
write_assignment-requires c = (let one = past_at past_assignment c.args.assignments.now c.loop-i.i (get_or c.args.assignments.now c.loop-i.i (record { left = 0; right = 0 })) (same_default c.args.assignments.now c.loop-i.i (record { left = 0; right = 0 }) (get_or c.args.assignments.now c.loop-i.i (record { left = 0; right = 0 })) c.loop-i-test.true) c.loop-i-test.true in omega (arith, one, c.requires))

pub loop-i-preserved : goal.loop-i-preserved
loop-i-preserved c =
    parted_more _ _ _ (assignments_parted c.args.pool.now) c.args.into.now c.loop-i.into c.write_between.new.into c.write_assignment.new.into c.args.assignments.now c.loop-i.i (get_or c.args.assignments.now c.loop-i.i (record { left = 0; right = 0 }))
    (same_default c.args.assignments.now c.loop-i.i (record { left = 0; right = 0 }) (get_or c.args.assignments.now c.loop-i.i (record { left = 0; right = 0 })) c.loop-i-test.true) c.loop-i-test.true c.loop-i.invariant c.in_ok-write_between.ensures c.in_ok-write_assignment.ensures
