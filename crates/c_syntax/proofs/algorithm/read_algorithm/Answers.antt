-- Proves what is asked of `read_algorithm`.
use Rattle.std.proofs.Common.{suc, length, arith}
use Rattle.std.proofs.lemmas.Result.{err_from_is_err_and}
use Rattle.expr_nodes.specs.Ahead.{ahead}
use Rattle.algorithm_reader.proofs.ToLast.{ends_there, goes_further, whole_fails}
use Rattle.c_reading.specs.ReadAlgorithm.{read_limited_algorithm}
use Rattle.c_syntax.proofs.Texts.{whole, limited_is_whole}
use Rattle.c_syntax.proofs.algorithm.read_algorithm.Goals as goal

pub returns-clause-read : goal.returns-clause-read
returns-clause-read c =
    let v = c.args.tokens.now in
    let said = c.in_ok-algorithm.ensures in
    ends_there v (whole v) (read_limited_algorithm (ahead v 0)) (limited_is_whole v) c.read_whole.new.pool c.in_ok-algorithm.algorithm c.in_ok-algorithm.end said.inside (omega (arith, c.if-end-len.false, c.len.ensures)) (said.read (suc (length v.items.items)) (omega arith))

pub returns-then-end-len-clause-read : goal.returns-then-end-len-clause-read
returns-then-end-len-clause-read c =
    let v = c.args.tokens.now in
    let said = c.in_ok-algorithm.ensures in
    goes_further v (whole v) (read_limited_algorithm (ahead v 0)) (limited_is_whole v) c.read_whole.new.pool c.in_ok-algorithm.algorithm c.refused_there.result c.in_ok-algorithm.end said.inside (omega (arith, c.if-end-len.true, c.len.ensures)) c.refused_there.ensures (said.read (suc (length v.items.items)) (omega arith))

pub returns-in_err-algorithm-clause-read : goal.returns-in_err-algorithm-clause-read
returns-in_err-algorithm-clause-read c =
    let v = c.args.tokens.now in
    let r = err_from_is_err_and c.from_residual.result c.from_residual.ensures.1 in
    rw (r.1, r.2) (whole_fails v (whole v) (read_limited_algorithm (ahead v 0)) (limited_is_whole v) c.in_err-algorithm.field-0.0 (c.in_err-algorithm.ensures.read (suc (length v.items.items)) (omega arith)))
