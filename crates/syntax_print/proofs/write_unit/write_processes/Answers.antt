-- Proves what is asked of `write_processes`.
use Rattle.std.proofs.Common.{[], ◌∷◌, map, refl, arith}
use Rattle.pcal_tree.specs.Printed.{process_lines}
use Rattle.pcal_tree.specs.InMemory.{process_at, past_process}
use Rattle.pcal_tree.specs.Syntaxes.{syntax_of}
use Rattle.syntax_print.proofs.Lines.{one_more}
use Rattle.tla_tree.proofs.PoolNumbers.{past_at}
use Rattle.syntax_print.proofs.write_unit.write_processes.Goals as goal

pub write_process-requires : goal.write_process-requires
write_process-requires c = (let one = past_at past_process c.args.list.now c.loop-unit.unit-index c.unit-item.result c.unit-item.is c.loop-unit-test.true in omega (arith, one, c.requires))

pub loop-unit-preserved : goal.loop-unit-preserved
loop-unit-preserved c = one_more (λ xs. process_lines (syntax_of c.args.syntax) (map (process_at c.args.pool.now) xs)) (λ x. process_lines (syntax_of c.args.syntax) (process_at c.args.pool.now x ∷ [])) (record { none = λ rest. refl; more = λ x xs rest. refl })
    c.args.into.now c.loop-unit.into c.write_process.new.into c.args.list.now c.loop-unit.unit-index c.unit-item.result c.unit-item.is c.loop-unit-test.true c.loop-unit.invariant c.in_ok-write_process.ensures
