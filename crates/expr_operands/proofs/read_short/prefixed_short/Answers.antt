-- Proves what is asked of `prefixed_short`.
use Rattle.std.proofs.Common.{◌≡◌, suc, ◌+◌, ◌≤◌, Some, arith, refl}
use Rattle.tla_tree.specs.Whole.{whole_in}
use Rattle.expr_nodes.specs.ShapeOf.{context_seen}
use Rattle.expr_nodes.specs.Ahead.{ahead}
use Rattle.expr_operands.specs.ShortForms.{under_short}
use Rattle.expr_rows.proofs.ReadPrimaries.{opened_as}
use Rattle.expr_operands.proofs.ReadShort.{short_more}
use Rattle.expr_operands.proofs.read_short.prefixed_short.Goals as goal

pub returns : goal.returns
returns g c =
    let v = c.args.tokens.now in
    let s = c.args.s in
    let d = c.in_ok-d.d in
    let l : d.left + 1 ≡ s.left = omega (arith, c.in_ok-d.ensures.left) in
    let small : suc d.left ≤ s.left = omega (arith, l) in
    opened_as v _ _ s.edge s.edge d.left s.left s.at c.after-from.result c.short_in.result _ (λ e. under_short (whole_in c.args.s.linked (Some d.left)) e c.args.place c.args.op (ahead v c.after-from.result))
    refl c.short_in.ensures c.after-from.ensures.no_less small (short_more _ s.left s.edge (context_seen c.args.context) c.args.place c.args.op (ahead v s.at) (ahead v c.after-from.result) d.left c.requires.bound l c.after-from.ensures.rest)
