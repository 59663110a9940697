-- Proves what is asked of `braces`.
use Rattle.std.proofs.Common.{◌≡◌, ℕ, suc, ◌+◌, ◌≤◌, Some, Err, subst, arith, refl}
use Rattle.std.proofs.lemmas.Result.{err_from_is_err_and}
use Rattle.tla_tree.specs.Reader.{peek, braces, room}
use Rattle.tla_tree.specs.Whole.{whole_in}
use Rattle.expr_nodes.specs.Ahead.{ahead}
use Rattle.expr_rows.specs.HasRead.{HasRead}
use Rattle.expr_rows.proofs.ReadFirst.{read_lost}
use Rattle.expr_rows.proofs.ReadPrimaries.{opened_on, read_as}
use Rattle.tla_expr.proofs.ReadBraces.{brace_more}
use Rattle.tla_expr.proofs.read_braces.braces.Goals as goal

pub returns : goal.returns
returns g c =
    let v = c.args.tokens.now in
    let s = c.args.s in
    let d = c.in_ok-d.d in
    let l : d.left + 1 ≡ s.left = omega (arith, c.in_ok-d.ensures.left) in
    let small : suc d.left ≤ s.left = omega (arith, l) in
    opened_on v _ _ _ s.edge s.edge d.left s.left s.at c.after-from.result c.in_ok-a.at c.in_ok-a.a c.postfix.result _ (λ e. peek e (braces (room c.args.s.linked (whole_in c.args.s.linked) (Some d.left)) (whole_in c.args.s.linked (Some d.left)) e c.args.place) (ahead v c.after-from.result)) (λ a. (whole_in c.args.s.linked (Some s.left)).postfix s.edge a)
    refl c.in_ok-a.ensures c.after-from.ensures.no_less small (brace_more _ s.left s.edge c.args.place (ahead v s.at) (ahead v c.after-from.result) d.left l c.after-from.ensures.rest)
    c.postfix.ensures.kept c.postfix.ensures.read c.postfix.ensures.stands

pub returns-in_err-a : goal.returns-in_err-a
returns-in_err-a g c =
    let v = c.args.tokens.now in
    let s = c.args.s in
    let d = c.in_ok-d.d in
    let l : d.left + 1 ≡ s.left = omega (arith, c.in_ok-d.ensures.left) in
    let small : suc d.left ≤ s.left = omega (arith, l) in
    let p = err_from_is_err_and c.from_residual-in_err-a.result c.from_residual-in_err-a.ensures.1 in
    let u = c.in_err-a.field-0.0 in
    let h = subst (λ (e : ℕ). HasRead c.args.s.linked v c.args.pool.now c.braces_from.new.pool c.after-from.result (suc d.left) (Err u) (peek e (braces (room c.args.s.linked (whole_in c.args.s.linked) (Some d.left)) (whole_in c.args.s.linked (Some d.left)) e c.args.place) (ahead v c.after-from.result))) refl c.in_err-a.ensures in
    read_lost v _ _ s.at s.left _ _ u _ _ (λ a. (whole_in c.args.s.linked (Some s.left)).postfix s.edge a) p.1 p.2 (brace_more _ s.left s.edge c.args.place (ahead v s.at) (ahead v c.after-from.result) d.left l c.after-from.ensures.rest)
    (read_as v _ _ c.after-from.result (suc d.left) (Err u) _ s.at s.left h c.after-from.ensures.no_less small)
