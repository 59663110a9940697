-- Proves what is asked of `element_in`.
use Rattle.std.proofs.Common.{Some}
use Rattle.tla_tree.specs.Whole.{whole_in}
use Rattle.expr_nodes.specs.Ahead.{ahead}
use Rattle.expr_operands.proofs.ReadElement.{refused_at, told_same}
use Rattle.tla_expr.proofs.ReadSquares.{square_fits, square_deep}
use Rattle.tla_expr.proofs.read_squares.element_in.Goals as goal

pub returns-then-e-s-clause-read : goal.returns-then-e-s-clause-read
returns-then-e-s-clause-read g c = λ i h.
    let s = c.args.s in
    told_same _ _ c.rest.result _ _ (square_fits _ (whole_in c.args.s.linked (Some s.left)) s.edge c.args.place (ahead c.args.tokens.now s.at) s.left c.args.e.shape i h.shape c.if-e-s.true) (c.rest.ensures.read i h)

pub returns-clause-read : goal.returns-clause-read
returns-clause-read g c = λ i h.
    let s = c.args.s in
    let ts = ahead c.args.tokens.now s.at in
    let deep = square_deep _ (whole_in c.args.s.linked (Some s.left)) s.edge c.args.place ts s.left c.args.e.shape i h.shape c.if-e-s.false in
    refused_at _ ts _ _ (rw c.rule_of-rule.ensures at c.refused.ensures) deep
