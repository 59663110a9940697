-- Proves that the first offence of procedures is found.
use Rattle.std.proofs.Common.{List, [], None, ap, ◌∙◌}
use Rattle.std.specs.List.{flat_map}
use Rattle.pcal_tree.specs.declared.algorithm.Stmt.{Stmt}
use Rattle.pcal_tree.specs.InMemory.{statements_at, procedure_at}
use Rattle.pcal_tree.specs.Offences.{first}
use Rattle.pcal_tree.specs.OffencesStale.{stale_at, stale_in_procedure}
use Rattle.algorithm_answer.specs.Joined.{joined}
use Rattle.read_rules.proofs.FoundLaws.{found_more, found_all, flat_mapped}
use Rattle.read_rules.specs.RefusalsIn.{looking}
use Rattle.read_rules.proofs.routines.of_procedures.Goals as goal

pub loop-procedure-preserved : goal.loop-procedure-preserved
loop-procedure-preserved c = λ ms ps ds k r.
    found_more (λ p. stale_in_procedure (looking ms ps) ds (procedure_at c.args.pool.now p)) c.args.procedures.now c.loop-procedure.procedure-index c.procedure-item.result None c.loop-procedure.found c.in_ok-found.found
    c.procedure-item.is c.loop-procedure-test.true
    (c.in_ok-found.ensures ms ps ds k r ∙ ap (λ (ss : List Stmt). joined c.loop-procedure.found (first (flat_map (stale_at ds []) (looking ms ps [] (statements_at c.args.pool.now ss))))) c.deref.ensures.value)
    (c.loop-procedure.invariant ms ps ds k r)

pub returns : goal.returns
returns c = λ ms ps ds k r.
    found_all (λ p. stale_in_procedure (looking ms ps) ds (procedure_at c.args.pool.now p)) c.args.procedures.now c.loop-procedure.procedure-index None c.loop-procedure.found c.loop-procedure-test.false
    (c.loop-procedure.invariant ms ps ds k r)
    ∙ ap first (flat_mapped (stale_in_procedure (looking ms ps) ds) (procedure_at c.args.pool.now) c.args.procedures.now)
