-- Proves what is asked of `link`.
use Rattle.std.proofs.lemmas.Result.{err_from_is_err_and}
use Rattle.tla_tree.specs.Reader.{next}
use Rattle.expr_nodes.specs.Ahead.{ahead}
use Rattle.algorithm_reader.specs.PartsRead.{parts_in}
use Rattle.algorithm_reader.specs.SimpleRead.{subscripted, selected}
use Rattle.algorithm_reader.proofs.LeftSides.{square_on, dot_on, link_on, link_fails}
use Rattle.algorithm_reader.proofs.left.link.Goals as goal

pub returns-in-Some-clause-read : goal.returns-in-Some-clause-read
returns-in-Some-clause-read c a h =
    let v = c.args.tokens.now in
    let m = parts_in v in
    let ts = ahead v c.args.at in
    let us = ahead v c.in-Some.next in
    let p = (next 0 ts).place in
    link_on m v c.args.place c.subscripted.new.pool a c.args.at c.in_ok-x.x.0 c.in_ok-x.x.1 (subscripted m a p us) (λ r. square_on m a ts us r c.in-Some.ensures.there c.in-Some.ensures.rest) (c.in_ok-x.ensures.read a p h)

pub returns-in_err-x-clause-read : goal.returns-in_err-x-clause-read
returns-in_err-x-clause-read c a h =
    let v = c.args.tokens.now in
    let m = parts_in v in
    let ts = ahead v c.args.at in
    let us = ahead v c.in-Some.next in
    let p = (next 0 ts).place in
    let q = err_from_is_err_and c.from_residual.result c.from_residual.ensures.1 in
    rw (q.1, q.2) (link_fails m v a c.args.at (subscripted m a p us) c.in_err-x.field-0.0 (λ r. square_on m a ts us r c.in-Some.ensures.there c.in-Some.ensures.rest) (c.in_err-x.ensures.read a p h))

pub returns-in-Some-after_mark-clause-read : goal.returns-in-Some-after_mark-clause-read
returns-in-Some-after_mark-clause-read c a h =
    let v = c.args.tokens.now in
    let m = parts_in v in
    let ts = ahead v c.args.at in
    let us = ahead v c.in-Some-after_mark.next in
    let p = (next 0 ts).place in
    link_on m v c.args.place c.selected.new.pool a c.args.at c.in_ok-x-2.x.0 c.in_ok-x-2.x.1 (selected a p us) (λ r. dot_on m a ts us r c.in-Some-after_mark.ensures.there c.in-Some-after_mark.ensures.rest) (c.in_ok-x-2.ensures.read a p h)

pub returns-in_err-x-2-clause-read : goal.returns-in_err-x-2-clause-read
returns-in_err-x-2-clause-read c a h =
    let v = c.args.tokens.now in
    let m = parts_in v in
    let ts = ahead v c.args.at in
    let us = ahead v c.in-Some-after_mark.next in
    let p = (next 0 ts).place in
    let q = err_from_is_err_and c.from_residual-in_err-x-2.result c.from_residual-in_err-x-2.ensures.1 in
    rw (q.1, q.2) (link_fails m v a c.args.at (selected a p us) c.in_err-x-2.field-0.0 (λ r. dot_on m a ts us r c.in-Some-after_mark.ensures.there c.in-Some-after_mark.ensures.rest) (c.in_err-x-2.ensures.read a p h))
