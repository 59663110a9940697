-- Proves what is asked of `number`.
use Rattle.std.proofs.Common.{◌≤◌, Some, List, arith, sym, ap}
use Rattle.tla_tree.specs.Lexical.{Token}
use Rattle.tla_tree.specs.Spelling.{number}
use Rattle.tla_tree.specs.Whole.{whole_in}
use Rattle.expr_rows.proofs.ReadPrimaries.{token_on}
use Rattle.expr_operands.proofs.read_token.number.Goals as goal

pub returns : goal.returns
returns g c =
    let s = c.args.s in
    let made = c.in_ok-a.ensures in
    let low : c.in_ok-a.a.shape.nesting ≤ s.left = grind (arith, made.shape) in
    let i = number c.args.place c.args.n in
    token_on c.args.tokens.now _ _ _ s.left s.at c.after-at.result c.in_ok-a.a c.postfix.result i (λ a. (whole_in c.args.s.linked (Some s.left)).postfix s.edge a) _
    (made.read _) made.kept low c.after-at.ensures.inside c.after-at.ensures.no_less (ap (λ (ts : List Token). (whole_in c.args.s.linked (Some s.left)).postfix s.edge i ts) (sym c.after-at.ensures.rest))
    c.postfix.ensures.kept c.postfix.ensures.read c.postfix.ensures.stands
