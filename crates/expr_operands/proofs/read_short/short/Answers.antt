-- Proves what is asked of `short`.
use Rattle.std.proofs.Common.{arith}
use Rattle.expr_nodes.specs.Ahead.{ahead}
use Rattle.expr_rows.proofs.ReadFirst.{refused_here, read_same}
use Rattle.expr_operands.proofs.ReadShort.{short_is_expr, short_at_key}
use Rattle.expr_operands.proofs.read_short.short.Goals as goal

pub returns-in-Key : goal.returns-in-Key
returns-in-Key g c =
    let v = c.args.tokens.now in
    let s = c.args.s in
    refused_here v _ s.at s.left _ _ _ c.refused.ensures (short_at_key _ v.bytes.items s.left s.edge (ahead v s.at) c.next_at.result.place c.next_at.result.view c.next_at.ensures _ c.in-Key.is)

pub returns-in_default : goal.returns-in_default
returns-in_default g c =
    let v = c.args.tokens.now in
    let s = c.args.s in
    read_same v _ _ s.at s.left c.inner.result _ _ (short_is_expr _ v.bytes.items s.left s.edge (ahead v s.at) c.next_at.result.place c.next_at.result.view c.next_at.ensures c.in_default.not-Key)
    (c.requires.given.reads _ _ _ _ _ (omega arith) c.requires.given.there c.inner.ensures)
