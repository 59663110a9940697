-- Proves what is asked of `from_name`.
use Rattle.std.proofs.Common.{Some}
use Rattle.tla_tree.specs.Whole.{whole_in}
use Rattle.expr_rows.proofs.ReadNames.{read_on}
use Rattle.expr_operands.proofs.read_name.from_name.Goals as goal

pub returns : goal.returns
returns g c =
    read_on c.args.tokens.now _ _ _ c.args.s.at c.in_ok-a.at c.args.s.left c.in_ok-a.a c.postfix.result _ (λ a. (whole_in c.args.s.linked (Some c.args.s.left)).postfix c.args.s.edge a)
    c.in_ok-a.ensures c.postfix.ensures.kept c.postfix.ensures.read c.postfix.ensures.stands
