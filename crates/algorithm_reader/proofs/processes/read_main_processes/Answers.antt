-- Proves what is asked of `read_main_processes`.
use Rattle.std.proofs.Common.{suc, arith}
use Rattle.std.proofs.lemmas.Result.{err_from_is_err_and}
use Rattle.expr_nodes.specs.Ahead.{ahead}
use Rattle.algorithm_reader.specs.PartsRead.{parts_in}
use Rattle.algorithm_reader.proofs.MainProcesses.{list_fails, main_read, no_processes, there_are, there_are_none}
use Rattle.algorithm_reader.proofs.processes.read_main_processes.Goals as goal

pub returns-clause-read : goal.returns-clause-read
returns-clause-read g c n h =
    let v = c.args.tokens.now in
    let m = parts_in v in
    let ps = c.in_ok-list.list in
    main_read m (g.W.Ways.readers m) n v c.args.at c.in_ok-list.end c.read_processes.new.pool ps (c.in_ok-list.ensures.read (suc n) (omega (arith, h)))
    (there_are ps.items ps.len c.is_empty.result (omega (arith, ps.ok)) c.is_empty.ensures c.if-is_empty.false)

pub returns-then-is_empty-clause-read : goal.returns-then-is_empty-clause-read
returns-then-is_empty-clause-read g c n h =
    let v = c.args.tokens.now in
    let m = parts_in v in
    let ps = c.in_ok-list.list in
    rw c.refused_there.ensures (no_processes m (g.W.Ways.readers m) n v c.args.at c.in_ok-list.end c.read_processes.new.pool ps (c.in_ok-list.ensures.read (suc n) (omega (arith, h)))
    (there_are_none ps.items ps.len c.is_empty.result (omega (arith, ps.ok)) c.is_empty.ensures c.if-is_empty.true))

pub returns-in_err-list-clause-read : goal.returns-in_err-list-clause-read
returns-in_err-list-clause-read g c n h =
    let v = c.args.tokens.now in
    let m = parts_in v in
    let r = err_from_is_err_and c.from_residual.result c.from_residual.ensures.1 in
    rw (r.1, r.2) (list_fails m (g.W.Ways.readers m) n (ahead v c.args.at) c.in_err-list.field-0.0 (c.in_err-list.ensures.read (suc n) (omega (arith, h))))
