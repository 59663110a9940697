-- Proves what is asked of `case`.
use Rattle.std.proofs.Common.{◌≡◌, suc, ◌+◌, ◌≤◌, Some, arith, refl}
use Rattle.tla_tree.specs.Whole.{whole_in}
use Rattle.expr_nodes.specs.Ahead.{ahead}
use Rattle.expr_rows.specs.HasRead.{cased}
use Rattle.expr_rows.proofs.ReadPrimaries.{opened_as}
use Rattle.tla_expr.proofs.ReadListed.{case_more}
use Rattle.tla_expr.proofs.read_listed.case.Goals as goal

pub returns : goal.returns
returns g c =
    let v = c.args.tokens.now in
    let s = c.args.s in
    let d = c.in_ok-d.d in
    let l : d.left + 1 ≡ s.left = omega (arith, c.in_ok-d.ensures.left) in
    let small : suc d.left ≤ s.left = omega (arith, l) in
    opened_as v _ _ s.edge s.edge d.left s.left s.at c.after-from.result c.case_in.result _ (λ e. cased (whole_in c.args.s.linked (Some d.left)) e c.args.place (ahead v c.after-from.result))
    refl c.case_in.ensures c.after-from.ensures.no_less small (case_more _ s.left s.edge c.args.place (ahead v s.at) (ahead v c.after-from.result) d.left l c.after-from.ensures.rest)
