-- Proves that the procedure that is found may be called, and that the ones before it have other names.
use Rattle.std.proofs.Common.{ℕ, ◌+◌, sym, ap, ◌∙◌}
use Rattle.pcal_tree.specs.Algorithm.{first_procedure, procedure_routine}
use Rattle.pcal_tree.specs.InMemory.{procedure_at}
use Rattle.step_moves.specs.Programs.{program_at}
use Rattle.step_moves.proofs.CalleeLaws.{named_later, callee_is}
use Rattle.step_moves.proofs.calls.procedure_named.Goals as goal

pub returns-then-is_named-clause-callee : goal.returns-then-is_named-clause-callee
returns-then-is_named-clause-callee c =
    let r = c.args.runner.now in
    callee_is r c.callee_of.result c.loop-i.i c.index-procedures-i.result c.requires.ready c.loop-i-test.true c.index-procedures-i.is
    (c.callee_of.ensures.number ∙ c.in_ok-number.ensures ∙ ap (λ (m : ℕ). m + c.loop-i.i) c.first_procedure-first.ensures) (c.callee_of.ensures.routine r.program.pool.now ∙ ap (λ (m : ℕ). procedure_routine m (procedure_at r.program.pool.now c.index-procedures-i.result)) (sym c.callee_of.ensures.number)) c.callee_of.ensures.variables

pub loop-i-preserved : goal.loop-i-preserved
loop-i-preserved c =
    let r = c.args.runner.now in
    named_later r.program.pool.now c.args.name.now (first_procedure (program_at r.program).algorithm) r.procedures.now c.loop-i.i c.index-procedures-i.result _ c.loop-i-test.true c.index-procedures-i.is
    (sym c.is_named.ensures ∙ c.if-is_named.false) c.loop-i.invariant
