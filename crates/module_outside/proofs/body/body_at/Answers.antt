-- Where tokens are left behind an expression, they are no body.
use Rattle.std.proofs.Common.{Err, ap, ◌∙◌, arith}
use Rattle.expr_nodes.specs.declared.cursor.Halt.{Halt}
use Rattle.module_outside.proofs.BodyLaws.{numbers_fit, body_whole, body_longer, body_refused}
use Rattle.module_outside.proofs.body.body_at.Goals as goal

pub returns-else-end-len-clause-value : goal.returns-else-end-len-clause-value
returns-else-end-len-clause-value c =
    let inside = c.in-Ok.ensures.inside in
    let other = c.if-end-len.false in
    let len = c.len.ensures in
    body_longer c.args.tokens.now c.read_expression_at.new.pool c.args.at c.in-Ok.e c.in-Ok.end c.read_expression_at.result c.in-Ok.is c.read_expression_at.ensures.read (omega (arith, inside, other, len))

pub read_expression_at-requires-clause-numbers : goal.read_expression_at-requires-clause-numbers
read_expression_at-requires-clause-numbers c = numbers_fit c.args.tokens.now c.requires.small

pub read_expression_at-requires-clause-limited : goal.read_expression_at-requires-clause-limited
read_expression_at-requires-clause-limited c = omega arith

pub returns-then-end-len-clause-value : goal.returns-then-end-len-clause-value
returns-then-end-len-clause-value c = body_whole c.args.tokens.now c.read_expression_at.new.pool c.args.at c.in-Ok.e c.in-Ok.end c.read_expression_at.result c.in-Ok.is c.read_expression_at.ensures.read (let h = c.if-end-len.true in let k = c.len.ensures in omega (arith, h, k))

pub returns-then-end-len-clause-within : goal.returns-then-end-len-clause-within
returns-then-end-len-clause-within c = c.in-Ok.ensures.within

pub returns-then-end-len-clause-kept : goal.returns-then-end-len-clause-kept
returns-then-end-len-clause-kept c = c.read_expression_at.ensures.kept

pub returns-else-end-len-clause-within : goal.returns-else-end-len-clause-within
returns-else-end-len-clause-within c = tt

pub returns-else-end-len-clause-kept : goal.returns-else-end-len-clause-kept
returns-else-end-len-clause-kept c = c.read_expression_at.ensures.kept

pub returns-in-Err-Memory-clause-value : goal.returns-in-Err-Memory-clause-value
returns-in-Err-Memory-clause-value c = tt

pub returns-in-Err-Memory-clause-within : goal.returns-in-Err-Memory-clause-within
returns-in-Err-Memory-clause-within c = tt

pub returns-in-Err-Memory-clause-kept : goal.returns-in-Err-Memory-clause-kept
returns-in-Err-Memory-clause-kept c = c.read_expression_at.ensures.kept

pub returns-in-Err-Refused-clause-value : goal.returns-in-Err-Refused-clause-value
returns-in-Err-Refused-clause-value c = body_refused c.args.tokens.now c.read_expression_at.new.pool c.args.at c.read_expression_at.result c.in-Err-Refused.field-0-0 c.in-Err-Refused.field-0-1 (c.in-Err-Refused.is ∙ ap (λ (h : Halt). Err h) c.in-Err-Refused.field-0-is) c.read_expression_at.ensures.read

pub returns-in-Err-Refused-clause-within : goal.returns-in-Err-Refused-clause-within
returns-in-Err-Refused-clause-within c = tt

pub returns-in-Err-Refused-clause-kept : goal.returns-in-Err-Refused-clause-kept
returns-in-Err-Refused-clause-kept c = c.read_expression_at.ensures.kept
