-- Proves what is asked of `member_rest`.
use Rattle.std.proofs.Common.{Some, sym, ◌∙◌}
use Rattle.tla_token.specs.TokensSeen.{span_bytes}
use Rattle.tla_token.specs.declared.rule.Rule.TheVariants.{TooDeep}
use Rattle.tla_tree.specs.Whole.{whole_in}
use Rattle.expr_nodes.specs.Ahead.{ahead}
use Rattle.expr_operands.proofs.ReadElement.{refused_at, told_same}
use Rattle.tla_expr.proofs.ReadSquares.{function_fits, function_deep}
use Rattle.tla_expr.proofs.read_squares.member_rest.Goals as goal

pub returns-then-s-y-clause-read : goal.returns-then-s-y-clause-read
returns-then-s-y-clause-read g c = λ i h.
    let s = c.args.s in
    let x = span_bytes c.args.tokens.now.bytes.items c.args.word.span in
    let ts = ahead c.args.tokens.now s.at in
    refused_at TooDeep ts _ _ c.refused.ensures (function_deep _ (whole_in c.args.s.linked (Some s.left)) s.edge c.args.place ts s.left c.args.y.set.shape i h.0.shape c.args.word.place x c.args.sign (sym c.is_function_next.ensures ∙ c.if-is_function_next.true) c.if-s-y.true)

pub returns-then-is_function_next-clause-read : goal.returns-then-is_function_next-clause-read
returns-then-is_function_next-clause-read g c = λ i h.
    let s = c.args.s in
    let x = span_bytes c.args.tokens.now.bytes.items c.args.word.span in
    let ts = ahead c.args.tokens.now s.at in
    told_same _ _ c.function_on.result _ _
    (function_fits _ (whole_in c.args.s.linked (Some s.left)) s.edge c.args.place ts s.left c.args.y.set.shape i h.0.shape c.args.word.place x c.args.sign (sym c.is_function_next.ensures ∙ c.if-is_function_next.true) c.if-s-y.false)
    (c.function_on.ensures.read i c.args.sign h.0)
