-- Proves what is asked of `read_arguments`.
use Rattle.std.proofs.lemmas.Result.{err_from_is_err_and}
use Rattle.algorithm_reader.specs.PartsRead.{parts_in}
use Rattle.algorithm_reader.proofs.GatheredArguments.{unclosed_arguments}
use Rattle.algorithm_reader.proofs.arguments.read_arguments.Goals as goal

pub returns-in_err-at-in-None-clause-read : goal.returns-in_err-at-in-None-clause-read
returns-in_err-at-in-None-clause-read c =
    let p = err_from_is_err_and c.from_residual-in_err-at-in-None.result c.from_residual-in_err-at-in-None.ensures.1 in
    rw (p.1, p.2) (unclosed_arguments (parts_in c.args.tokens.now) c.args.tokens.now c.args.at c.in_ok-at.at c.in_ok-list-in-None.at c.in_ok-at.field-0-0 c.in_err-at-in-None.field-0.0 c.in_ok-at.ensures.value
    c.in-None.ensures.none c.in_ok-list-in-None.ensures.read c.in_err-at-in-None.ensures.value)
