-- Proves what is asked of `first`.
use Rattle.std.proofs.Common.{sym, arith}
use Rattle.expr_nodes.specs.Ahead.{ahead}
use Rattle.expr_rows.proofs.ReadFirst.{read_same}
use Rattle.expr_operands.proofs.ReadShort.{tight_other, tight_sign}
use Rattle.expr_operands.proofs.read_element.first.Goals as goal

pub returns-in-None : goal.returns-in-None
returns-in-None g c =
    let v = c.args.tokens.now in
    let s = c.args.s in
    read_same v _ _ s.at s.left c.inner.result _ _ (tight_sign _ v.bytes.items s.left s.edge (ahead v s.at) c.next_at-t.result.place c.next_at-t.result.view c.next_at-t.ensures c.in-Sign.op c.in-Sign.is (sym c.in-None.ensures))
    (c.requires.given.reads _ _ _ _ _ (omega arith) c.requires.given.there c.inner.ensures)

pub returns-in_default : goal.returns-in_default
returns-in_default g c =
    let v = c.args.tokens.now in
    let s = c.args.s in
    read_same v _ _ s.at s.left c.inner-in_default.result _ _ (tight_other _ v.bytes.items s.left s.edge (ahead v s.at) c.next_at-t.result.place c.next_at-t.result.view c.next_at-t.ensures c.in_default.not-Sign)
    (c.requires.given.reads _ _ _ _ _ (omega arith) c.requires.given.there c.inner-in_default.ensures)
