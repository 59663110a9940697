-- Proves what is asked of `member_rest`.
use Rattle.std.proofs.Common.{Some}
use Rattle.tla_token.specs.TokensSeen.{span_bytes}
use Rattle.tla_token.specs.declared.rule.Rule.TheVariants.{TooDeep}
use Rattle.tla_tree.specs.Reader.{next}
use Rattle.tla_tree.specs.Whole.{whole_in}
use Rattle.expr_nodes.specs.Ahead.{ahead}
use Rattle.expr_operands.proofs.ReadElement.{refused_at, told_same}
use Rattle.tla_expr.proofs.ReadMembers.{member_tests, member_deep}
use Rattle.tla_expr.proofs.read_member.member_rest.Goals as goal

pub returns-then-s-y-clause-read : goal.returns-then-s-y-clause-read
returns-then-s-y-clause-read g c = λ i h.
    let s = c.args.s in
    let x = span_bytes c.args.tokens.now.bytes.items c.args.word.span in
    let ts = ahead c.args.tokens.now s.at in
    refused_at TooDeep ts _ _ c.refused.ensures (member_deep _ s.left (whole_in c.args.s.linked (Some s.left)) s.edge c.args.place ts c.args.word.place x c.args.sign i c.args.y.set.shape h.0.shape c.in-Some.ensures.there c.if-s-y.true)

pub returns-in-Some-clause-read : goal.returns-in-Some-clause-read
returns-in-Some-clause-read g c = λ i h.
    let s = c.args.s in
    let x = span_bytes c.args.tokens.now.bytes.items c.args.word.span in
    let ts = ahead c.args.tokens.now s.at in
    told_same _ _ c.filter_in.result _ _
    (member_tests _ s.left (whole_in c.args.s.linked (Some s.left)) s.edge c.args.place ts c.args.word.place x c.args.sign i c.args.y.set.shape h.0.shape c.in-Some.ensures.there c.if-s-y.false _ c.in-Some.ensures.rest)
    (c.filter_in.ensures.read i c.args.sign (next s.edge ts).place h.0)
