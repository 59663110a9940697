-- Proves what is asked of `read_macro`.
use Rattle.std.proofs.Common.{arith}
use Rattle.std.proofs.lemmas.Result.{err_from_is_err_and}
use Rattle.algorithm_reader.specs.PartsRead.{parts_in}
use Rattle.algorithm_reader.proofs.MacroRounds.{macro_read, no_parameters, no_macro_body}
use Rattle.algorithm_reader.proofs.macros.read_macro.Goals as goal

pub returns-clause-read : goal.returns-clause-read
returns-clause-read g c n p h =
    let v = c.args.tokens.now in
    let named = c.in_ok-name.ensures in
    let listed = c.in_ok-params.ensures in
    macro_read (g.W.Ways.readers (parts_in v)) n p v c.args.at c.in_ok-name.next c.in_ok-params.behind c.in_ok-body.end c.body.new.pool (record { name = c.in_ok-name.name; params = c.in_ok-params.params; body = c.in_ok-body.body })
    named.value (listed.read n (omega (arith, h, named.further))) (c.in_ok-body.ensures.read n (omega (arith, h, named.further, listed.further)))

pub returns-in_err-params-clause-read : goal.returns-in_err-params-clause-read
returns-in_err-params-clause-read g c n p h =
    let v = c.args.tokens.now in
    let named = c.in_ok-name.ensures in
    let r = err_from_is_err_and c.from_residual-in_err-params.result c.from_residual-in_err-params.ensures.1 in
    rw (r.1, r.2) (no_parameters (g.W.Ways.readers (parts_in v)) n p v c.args.at c.in_ok-name.next c.in_ok-name.name named.value c.in_err-params.field-0.0 (c.in_err-params.ensures.read n (omega (arith, h, named.further))))

pub returns-in_err-body-clause-read : goal.returns-in_err-body-clause-read
returns-in_err-body-clause-read g c n p h =
    let v = c.args.tokens.now in
    let named = c.in_ok-name.ensures in
    let listed = c.in_ok-params.ensures in
    let r = err_from_is_err_and c.from_residual-in_err-body.result c.from_residual-in_err-body.ensures.1 in
    rw (r.1, r.2) (no_macro_body (g.W.Ways.readers (parts_in v)) n p v c.args.at c.in_ok-name.next c.in_ok-name.name named.value c.in_ok-params.behind (listed.read n (omega (arith, h, named.further))) c.in_err-body.field-0.0
    (c.in_err-body.ensures.read n (omega (arith, h, named.further, listed.further))))
