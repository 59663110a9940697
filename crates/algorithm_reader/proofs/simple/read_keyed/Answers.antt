-- Proves what is asked of `read_keyed`.
use Rattle.std.proofs.Common.{sym, ◌∙◌}
use Rattle.std.proofs.lemmas.Result.{err_from_is_err_and}
use Rattle.expr_nodes.specs.Ahead.{ahead}
use Rattle.algorithm_reader.specs.PartsRead.{parts_in}
use Rattle.algorithm_reader.proofs.SimpleParts.{call_fails}
use Rattle.algorithm_reader.proofs.simple.read_keyed.Goals as goal

pub returns-in_err-list-clause-read : goal.returns-in_err-list-clause-read
returns-in_err-list-clause-read c =
    let v = c.args.tokens.now in
    let p = err_from_is_err_and c.from_residual-in_err-list.result c.from_residual-in_err-list.ensures.1 in
    rw (p.1, p.2) (call_fails (parts_in v) (ahead v c.args.at) (ahead v c.behind-next.result) (ahead v c.in_ok-name-2.from) c.in_ok-name-2.name c.in_err-list.field-0.0 (sym c.is_next_word-else-is_next_word-6.ensures ∙ c.if-is_next_word-7.true) c.behind-next.ensures.rest
    c.in_ok-name-2.ensures.value c.in_err-list.ensures.read)
