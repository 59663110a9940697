-- Proves what is asked of `quantifier`.
use Rattle.std.proofs.Common.{◌≡◌, suc, ◌+◌, ◌≤◌, Some, arith, refl}
use Rattle.tla_tree.specs.Reader as reader
use Rattle.tla_tree.specs.Whole.{whole_in}
use Rattle.expr_nodes.specs.Ahead.{ahead}
use Rattle.expr_rows.proofs.ReadPrimaries.{opened_as}
use Rattle.expr_binders.proofs.ReadQuantifiers.{quantifier_more}
use Rattle.expr_binders.proofs.read_quantifier.quantifier.Goals as goal

pub returns : goal.returns
returns g c =
    let v = c.args.tokens.now in
    let s = c.args.s in
    let d = c.in_ok-d.d in
    let l : d.left + 1 ≡ s.left = omega (arith, c.in_ok-d.ensures.left) in
    let small : suc d.left ≤ s.left = omega (arith, l) in
    opened_as v _ _ s.edge s.edge d.left s.left s.at c.after-from.result c.quantifier_in.result _ (λ e. reader.quantifier (whole_in c.args.s.linked (Some d.left)) e c.args.every c.args.place (ahead v c.after-from.result))
    refl c.quantifier_in.ensures c.after-from.ensures.no_less small (quantifier_more _ s.left s.edge c.args.every c.args.place (ahead v s.at) (ahead v c.after-from.result) d.left l c.after-from.ensures.rest)
