-- Proves what is asked of `read_procedure_parameters`.
use Rattle.std.proofs.Common.{arith}
use Rattle.std.proofs.lemmas.Result.{err_from_is_err_and}
use Rattle.algorithm_reader.specs.PartsRead.{parts_in}
use Rattle.algorithm_reader.proofs.GatheredVariables.{unclosed}
use Rattle.algorithm_reader.proofs.parameters.read_procedure_parameters.Goals as goal

pub returns-in_err-at-in-None-clause-read : goal.returns-in_err-at-in-None-clause-read
returns-in_err-at-in-None-clause-read c n h =
    let v = c.args.tokens.now in
    let p = err_from_is_err_and c.from_residual-in_err-at-in-None.result c.from_residual-in_err-at-in-None.ensures.1 in
    rw (p.1, p.2) (unclosed (parts_in v) n v c.args.at c.in_ok-at.at c.in_ok-list-in-None.at c.in_ok-at.field-0-0 c.in_err-at-in-None.field-0.0 c.in_ok-at.ensures.value c.in-None.ensures.none
    (c.in_ok-list-in-None.ensures.read n (omega (arith, h, c.in_ok-at.ensures.further))) c.in_err-at-in-None.ensures.value)
