-- Proves what is asked of `read_expr`.
use Rattle.tla_token.specs.declared.rule.Refusal.{Refusal}
use Rattle.tla_tree.specs.FirstStop.{RefusesExpression}
use Rattle.expr_nodes.specs.Ahead.{ahead}
use Rattle.tla_expr.proofs.ReadExpression.{reads_there, refuses_there, refused_as}
use Rattle.tla_expr.proofs.read_expression.read_expr.Goals as goal

pub returns-in-Ok-clause-read : goal.returns-in-Ok-clause-read
returns-in-Ok-clause-read c = reads_there c.args.tokens.now c.args.at c.requires.there c.read_at.new.pool c.in-Ok.e c.in-Ok.end c.in-Ok.ensures.inside c.in-Ok.ensures.read

pub returns-in-Err-Refused-clause-refused : goal.returns-in-Err-Refused-clause-refused
returns-in-Err-Refused-clause-refused c r e =
    let v = c.args.tokens.now in
    let f = rw c.in-Err-Refused.field-0-is at c.in-Err-Refused.ensures.read in
    let w = refuses_there v c.args.at c.requires.there c.in-Err-Refused.rule c.in-Err-Refused.left f in
    refused_as (λ (r : Refusal). RefusesExpression (ahead v c.args.at) v.end r) _ r e (rw c.place_before.ensures w)
