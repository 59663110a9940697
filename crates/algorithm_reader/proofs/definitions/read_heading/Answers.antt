-- Proves what is asked of `read_heading`.
use Rattle.std.proofs.Common.{arith}
use Rattle.std.proofs.lemmas.Result.{err_from_is_err_and}
use Rattle.algorithm_reader.proofs.GatheredDefinitions.{unclosed_heading}
use Rattle.algorithm_reader.proofs.definitions.read_heading.Goals as goal

pub returns-in_err-at-clause-read : goal.returns-in_err-at-clause-read
returns-in_err-at-clause-read c n h =
    let v = c.args.tokens.now in
    let p = err_from_is_err_and c.from_residual-in_err-at.result c.from_residual-in_err-at.ensures.1 in
    rw (p.1, p.2) (unclosed_heading v n c.args.at c.in_ok-name.at c.in-Some.next c.in_ok-params.at c.in_ok-name.name c.in_err-at.field-0.0 c.in_ok-name.ensures.value c.in-Some.ensures.there c.in-Some.ensures.rest
    (c.in_ok-params.ensures.read n (omega (arith, h, c.in_ok-name.ensures.further, c.in-Some.ensures.no_less))) c.in_err-at.ensures.value)
