-- Proves what is asked of `if_then_else`.
use Rattle.std.proofs.Common.{◌≡◌, suc, ◌+◌, ◌≤◌, Some, arith, refl}
use Rattle.tla_tree.specs.Reader.{choice_from}
use Rattle.tla_tree.specs.Whole.{whole_in}
use Rattle.expr_nodes.specs.Ahead.{ahead}
use Rattle.expr_rows.proofs.ReadPrimaries.{opened_as, if_more}
use Rattle.expr_binders.proofs.read_choice.if_then_else.Goals as goal

pub returns : goal.returns
returns g c =
    let v = c.args.tokens.now in
    let s = c.args.s in
    let d = c.in_ok-d.d in
    let l : d.left + 1 ≡ s.left = omega (arith, c.in_ok-d.ensures.left) in
    let small : suc d.left ≤ s.left = omega (arith, l) in
    opened_as v _ _ s.edge s.edge d.left s.left s.at c.after-from.result c.choice_from.result _ (λ e. choice_from (whole_in c.args.s.linked (Some d.left)) e c.args.place (ahead v c.after-from.result))
    refl c.choice_from.ensures c.after-from.ensures.no_less small (if_more _ s.left s.edge c.args.place (ahead v s.at) (ahead v c.after-from.result) d.left l c.after-from.ensures.rest)
