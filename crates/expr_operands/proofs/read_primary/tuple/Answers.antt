-- Proves what is asked of `tuple`.
use Rattle.std.proofs.Common.{◌≡◌, suc, ◌+◌, ◌≤◌, Some, arith, refl}
use Rattle.tla_tree.specs.Whole.{whole_in}
use Rattle.expr_nodes.specs.Ahead.{ahead}
use Rattle.tla_tree.specs.Reader.{peek, tuples}
use Rattle.expr_rows.proofs.ReadPrimaries.{opened_on, tuple_more}
use Rattle.expr_operands.proofs.read_primary.tuple.Goals as goal

pub returns : goal.returns
returns g c =
    let v = c.args.tokens.now in
    let s = c.args.s in
    let d = c.in_ok-d.d in
    let l : d.left + 1 ≡ s.left = omega (arith, c.in_ok-d.ensures.left) in
    let small : suc d.left ≤ s.left = omega (arith, l) in
    opened_on v _ _ _ s.edge s.edge d.left s.left s.at c.after-from.result c.in_ok-a.at c.in_ok-a.a c.postfix.result _ (λ e. peek e (tuples (whole_in c.args.s.linked (Some d.left)) e c.args.place) (ahead v c.after-from.result)) (λ a. (whole_in c.args.s.linked (Some s.left)).postfix s.edge a)
    refl c.in_ok-a.ensures c.after-from.ensures.no_less small (tuple_more _ s.left s.edge c.args.place (ahead v s.at) (ahead v c.after-from.result) d.left l c.after-from.ensures.rest)
    c.postfix.ensures.kept c.postfix.ensures.read c.postfix.ensures.stands
