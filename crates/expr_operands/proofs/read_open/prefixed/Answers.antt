-- Proves what is asked of `prefixed`.
use Rattle.std.proofs.Common.{◌≡◌, suc, ◌+◌, ◌≤◌, Some, arith, refl}
use Rattle.tla_tree.specs.Whole.{whole_in}
use Rattle.expr_nodes.specs.ShapeOf.{context_seen}
use Rattle.expr_nodes.specs.Ahead.{ahead}
use Rattle.expr_rows.specs.HasRead.{under_prefix}
use Rattle.expr_rows.proofs.ReadPrimaries.{opened_as, prefix_more}
use Rattle.expr_operands.proofs.read_open.prefixed.Goals as goal

pub returns : goal.returns
returns g c =
    let v = c.args.tokens.now in
    let s = c.args.s in
    let d = c.in_ok-d.d in
    let l : d.left + 1 ≡ s.left = omega (arith, c.in_ok-d.ensures.left) in
    let small : suc d.left ≤ s.left = omega (arith, l) in
    opened_as v _ _ s.edge s.edge d.left s.left s.at c.after-from.result c.operand_in.result _ (λ e. under_prefix (whole_in c.args.s.linked (Some d.left)) e c.args.place c.args.op (ahead v c.after-from.result))
    refl c.operand_in.ensures c.after-from.ensures.no_less small (prefix_more _ s.left s.edge (context_seen c.args.context) c.args.place c.args.op (ahead v s.at) (ahead v c.after-from.result) d.left c.requires.free l c.after-from.ensures.rest)
