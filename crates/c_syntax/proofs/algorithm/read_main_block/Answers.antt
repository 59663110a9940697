-- Proves what is asked of `read_main_block`.
use Rattle.std.proofs.lemmas.Result.{err_from_is_err_and}
use Rattle.expr_nodes.specs.Ahead.{ahead}
use Rattle.algorithm_reader.specs.PartsRead.{parts_in}
use Rattle.c_syntax.proofs.MainBlock.{main_reads, main_fails}
use Rattle.c_syntax.proofs.algorithm.read_main_block.Goals as goal

pub returns-clause-read : goal.returns-clause-read
returns-clause-read c n e =
    let v = c.args.tokens.now in
    main_reads (parts_in v) n (ahead v c.args.at) (ahead v c.in_ok-list.end) c.read_body.new.pool c.in_ok-list.list c.requires.block (c.in_ok-list.ensures.read n e)

pub returns-in_err-list-clause-read : goal.returns-in_err-list-clause-read
returns-in_err-list-clause-read c n e =
    let v = c.args.tokens.now in
    let r = err_from_is_err_and c.from_residual.result c.from_residual.ensures.1 in
    rw (r.1, r.2) (main_fails (parts_in v) n (ahead v c.args.at) c.in_err-list.field-0.0 c.requires.block (c.in_err-list.ensures.read n e))
