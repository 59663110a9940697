-- Proves what is asked of `read_process`.
use Rattle.std.proofs.Common.{arith}
use Rattle.std.proofs.lemmas.Result.{err_from_is_err_and}
use Rattle.algorithm_reader.specs.PartsRead.{parts_in}
use Rattle.algorithm_reader.proofs.ProcessRounds.{process_read, no_identity, no_process_variables, no_process_body}
use Rattle.algorithm_reader.proofs.processes.read_process.Goals as goal

pub returns-clause-read : goal.returns-clause-read
returns-clause-read g c n a p e h =
    let v = c.args.tokens.now in
    let who = c.in_ok-name.ensures in
    let own = c.in_ok-variables.ensures in
    process_read (parts_in v) (g.W.Ways.readers (parts_in v)) n a p v c.args.at c.in_ok-name.next c.in_ok-variables.behind c.in_ok-body.end c.identity.new.pool c.read_section.new.pool c.body.new.pool
    (record { name = c.in_ok-name.name; fairness = c.args.fairness; several = c.in_ok-name.several; identity = c.in_ok-name.identity; variables = c.in_ok-variables.variables; body = c.in_ok-body.body }) e own.kept c.in_ok-body.ensures.kept who.read
    (own.read n (omega (arith, h, who.further))) (c.in_ok-body.ensures.read n (omega (arith, h, who.further, own.further)))

pub returns-in_err-name-clause-read : goal.returns-in_err-name-clause-read
returns-in_err-name-clause-read g c n a p e h =
    let v = c.args.tokens.now in
    let r = err_from_is_err_and c.from_residual.result c.from_residual.ensures.1 in
    rw (r.1, r.2) (no_identity (parts_in v) (g.W.Ways.readers (parts_in v)) n a p v c.args.at c.in_err-name.field-0.0 c.in_err-name.ensures.read)

pub returns-in_err-variables-clause-read : goal.returns-in_err-variables-clause-read
returns-in_err-variables-clause-read g c n a p e h =
    let v = c.args.tokens.now in
    let who = c.in_ok-name.ensures in
    let r = err_from_is_err_and c.from_residual-in_err-variables.result c.from_residual-in_err-variables.ensures.1 in
    rw (r.1, r.2) (no_process_variables (parts_in v) (g.W.Ways.readers (parts_in v)) n a p v c.args.at c.in_ok-name.next who.read c.in_err-variables.field-0.0 (c.in_err-variables.ensures.read n (omega (arith, h, who.further))))

pub returns-in_err-body-clause-read : goal.returns-in_err-body-clause-read
returns-in_err-body-clause-read g c n a p e h =
    let v = c.args.tokens.now in
    let who = c.in_ok-name.ensures in
    let own = c.in_ok-variables.ensures in
    let r = err_from_is_err_and c.from_residual-in_err-body.result c.from_residual-in_err-body.ensures.1 in
    rw (r.1, r.2) (no_process_body (parts_in v) (g.W.Ways.readers (parts_in v)) n a p v c.args.at c.in_ok-name.next who.read c.in_ok-variables.behind (own.read n (omega (arith, h, who.further))) c.in_err-body.field-0.0
    (c.in_err-body.ensures.read n (omega (arith, h, who.further, own.further))))
