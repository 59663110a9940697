-- Proves what is asked of `word`.
use Rattle.std.proofs.Common.{Some, arith, sym, ap}
use Rattle.tla_token.specs.TokensSeen.{span_bytes}
use Rattle.tla_tree.specs.Reader.{from_name, room}
use Rattle.tla_tree.specs.Whole.{whole_in}
use Rattle.expr_rows.proofs.ReadFirst.{read_same}
use Rattle.expr_rows.proofs.ReadPrimaries.{read_as}
use Rattle.tla_expr.proofs.read_first.word.Goals as goal

pub returns : goal.returns
returns g c =
    let v = c.args.tokens.now in
    let s = c.args.s in
    let x = span_bytes v.bytes.items c.args.span in
    read_same v _ _ s.at s.left c.from_name.result _ _ (ap (from_name (room c.args.s.linked (whole_in c.args.s.linked) (Some s.left)) (whole_in c.args.s.linked (Some s.left)) s.edge c.args.place x) (sym c.after-at.ensures.rest))
    (read_as v _ _ c.after-at.result s.left c.from_name.result _ s.at s.left c.from_name.ensures c.after-at.ensures.no_less (omega arith))
