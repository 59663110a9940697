-- Proves that the procedure is the first of its name.
use Rattle.std.proofs.Common.{◌≡◌, ◌+◌, ℕ, length, Some, sym, ap, ◌∙◌, arith}
use Rattle.std.proofs.lemmas.Option.{slice_get_read}
use Rattle.tla_tree.proofs.PoolNumbers.{past_at}
use Rattle.pcal_tree.specs.Algorithm.{procedure_routine}
use Rattle.pcal_tree.specs.InMemory.{past_procedure, procedure_at}
use Rattle.step_items.proofs.CallLaws.{on_none, called, called_none}
use Rattle.step_items.proofs.moves.procedure_named.Goals as goal

pub returns-in_err-number-clause-named : goal.returns-in_err-number-clause-named
returns-in_err-number-clause-named c =
    on_none c.from_residual.result _ _ c.from_residual.ensures
    (λ ts P u x h. called_none ts c.args.desk.now.draft.now.algorithm.now P.algorithm h.draft.algorithm c.args.desk.now.procedures.now h.titles c.args.name.now (sym c.number.ensures ∙ c.in_err-number.was))

pub returns-clause-named : goal.returns-clause-named
returns-clause-named c = λ ts P u x h.
    let a = c.args.desk.now.draft.now.algorithm.now in
    let m = c.in_ok-number.number in
    let long : c.len.result ≡ length a.procedures.items = omega (arith, c.len.ensures, a.procedures.ok) in
    let before : c.len-2.result ≡ length a.macros.items = omega (arith, c.len-2.ensures, a.macros.ok) in
    called ts a P.algorithm h.draft.algorithm c.args.desk.now.procedures.now h.titles c.args.name.now m c.index.result.now (sym c.number.ensures ∙ c.in_ok-number.was)
    (slice_get_read a.procedures.items c.len.result m c.index.result.now long c.if-number-len.false c.index.ensures)
    ∙ ap (λ (n : ℕ). Some (procedure_routine (n + m) (procedure_at ts c.index.result.now))) (sym before)

pub returns-clause-within : goal.returns-clause-within
returns-clause-within c =
    let a = c.args.desk.now.draft.now.algorithm.now in
    let past = past_at past_procedure a.procedures.items c.in_ok-number.number c.index.result.now c.index.ensures (omega (arith, c.if-number-len.false, c.len.ensures, a.procedures.ok)) in
    omega (arith, past)
