-- Proves what is asked of `read_procedure`.
use Rattle.std.proofs.Common.{arith}
use Rattle.std.proofs.lemmas.Result.{err_from_is_err_and}
use Rattle.algorithm_reader.specs.PartsRead.{parts_in}
use Rattle.algorithm_reader.proofs.ProcedureRounds.{procedure_read, no_procedure_parameters, no_procedure_variables, no_procedure_body}
use Rattle.algorithm_reader.proofs.procedures.read_procedure.Goals as goal

pub returns-clause-read : goal.returns-clause-read
returns-clause-read g c n p h =
    let v = c.args.tokens.now in
    let named = c.in_ok-name.ensures in
    let listed = c.in_ok-params.ensures in
    let own = c.in_ok-variables.ensures in
    procedure_read (parts_in v) (g.W.Ways.readers (parts_in v)) n p v c.args.at c.in_ok-name.next c.in_ok-params.after c.in_ok-variables.behind c.in_ok-body.end c.read_procedure_parameters.new.pool c.read_section.new.pool c.body.new.pool
    (record { name = c.in_ok-name.name; params = c.in_ok-params.params; variables = c.in_ok-variables.variables; body = c.in_ok-body.body }) own.kept c.in_ok-body.ensures.kept named.value (listed.read n (omega (arith, h, named.further)))
    (own.read n (omega (arith, h, named.further, listed.further))) (c.in_ok-body.ensures.read n (omega (arith, h, named.further, listed.further, own.further)))

pub returns-in_err-params-clause-read : goal.returns-in_err-params-clause-read
returns-in_err-params-clause-read g c n p h =
    let v = c.args.tokens.now in
    let named = c.in_ok-name.ensures in
    let r = err_from_is_err_and c.from_residual-in_err-params.result c.from_residual-in_err-params.ensures.1 in
    rw (r.1, r.2) (no_procedure_parameters (parts_in v) (g.W.Ways.readers (parts_in v)) n p v c.args.at c.in_ok-name.next c.in_ok-name.name named.value c.in_err-params.field-0.0 (c.in_err-params.ensures.read n (omega (arith, h, named.further))))

pub returns-in_err-variables-clause-read : goal.returns-in_err-variables-clause-read
returns-in_err-variables-clause-read g c n p h =
    let v = c.args.tokens.now in
    let named = c.in_ok-name.ensures in
    let listed = c.in_ok-params.ensures in
    let r = err_from_is_err_and c.from_residual-in_err-variables.result c.from_residual-in_err-variables.ensures.1 in
    rw (r.1, r.2) (no_procedure_variables (parts_in v) (g.W.Ways.readers (parts_in v)) n p v c.args.at c.in_ok-name.next c.in_ok-name.name named.value c.in_ok-params.after (listed.read n (omega (arith, h, named.further))) c.in_err-variables.field-0.0
    (c.in_err-variables.ensures.read n (omega (arith, h, named.further, listed.further))))

pub returns-in_err-body-clause-read : goal.returns-in_err-body-clause-read
returns-in_err-body-clause-read g c n p h =
    let v = c.args.tokens.now in
    let named = c.in_ok-name.ensures in
    let listed = c.in_ok-params.ensures in
    let own = c.in_ok-variables.ensures in
    let r = err_from_is_err_and c.from_residual-in_err-body.result c.from_residual-in_err-body.ensures.1 in
    rw (r.1, r.2) (no_procedure_body (parts_in v) (g.W.Ways.readers (parts_in v)) n p v c.args.at c.in_ok-name.next c.in_ok-name.name named.value c.in_ok-params.after (listed.read n (omega (arith, h, named.further))) c.in_ok-variables.behind
    (own.read n (omega (arith, h, named.further, listed.further))) c.in_err-body.field-0.0 (c.in_err-body.ensures.read n (omega (arith, h, named.further, listed.further, own.further))))
