-- Proves what is asked of `write_procedures`.
use Rattle.std.proofs.Common.{[], ◌∷◌, map, refl, arith}
use Rattle.pcal_tree.specs.Printed.{procedures}
use Rattle.pcal_tree.specs.InMemory.{procedure_at, past_procedure}
use Rattle.pcal_tree.specs.Syntaxes.{syntax_of}
use Rattle.syntax_print.proofs.Lines.{one_more}
use Rattle.tla_tree.proofs.PoolNumbers.{past_at}
use Rattle.syntax_print.proofs.write_unit.write_procedures.Goals as goal

pub write_procedure-requires : goal.write_procedure-requires
write_procedure-requires c = (let one = past_at past_procedure c.args.list.now c.loop-unit.unit-index c.unit-item.result c.unit-item.is c.loop-unit-test.true in omega (arith, one, c.requires))

pub loop-unit-preserved : goal.loop-unit-preserved
loop-unit-preserved c = one_more (λ xs. procedures (syntax_of c.args.syntax) (map (procedure_at c.args.pool.now) xs)) (λ x. procedures (syntax_of c.args.syntax) (procedure_at c.args.pool.now x ∷ [])) (record { none = λ rest. refl; more = λ x xs rest. refl })
    c.args.into.now c.loop-unit.into c.write_procedure.new.into c.args.list.now c.loop-unit.unit-index c.unit-item.result c.unit-item.is c.loop-unit-test.true c.loop-unit.invariant c.in_ok-write_procedure.ensures
