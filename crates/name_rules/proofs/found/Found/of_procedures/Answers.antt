-- Proves that the first offence of all is found.
use Rattle.std.proofs.Common.{◌++◌, ◌∙◌}
use Rattle.pcal_tree.specs.InMemory.{declarations_at, statements_at, procedure_at}
use Rattle.pcal_tree.specs.Offences.{first}
use Rattle.pcal_tree.specs.OffencesNames.{in_procedure}
use Rattle.name_rules.specs.Routines.{routine_offences}
use Rattle.name_rules.proofs.RoutineLaws.{each_next, each_done}
use Rattle.name_rules.proofs.found.Found.of_procedures.Goals as goal

pub loop-one-preserved : goal.loop-one-preserved
loop-one-preserved c = λ C ps s m h.
    each_next (in_procedure C ps s) (procedure_at c.args.pool.now) _ c.args.list.now c.loop-one.one-index c.one-item.result c.loop-one.found c.in_ok-offence.offence c.least-found.result c.one-item.is c.loop-one-test.true
    (c.in_ok-offence.ensures C ps s m h
    ∙ (λ z. first (routine_offences C ps (declarations_at c.args.pool.now (c.deref.ensures.value z) ++ declarations_at c.args.pool.now (c.deref-in-loop-one.ensures.value z)) (statements_at c.args.pool.now (c.deref-in-loop-one-2.ensures.value z)) s))) c.least-found.ensures (c.loop-one.invariant C ps s m h)

pub returns : goal.returns
returns c = λ C ps s m h.
    each_done (in_procedure C ps s) (procedure_at c.args.pool.now) _ c.args.list.now c.loop-one.one-index c.loop-one.found c.loop-one-test.false (c.loop-one.invariant C ps s m h)
