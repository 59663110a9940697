-- Proves what is asked of `eval_bound`.
use Rattle.std.proofs.Common.{◌∙◌, sym, ap, subst, length, Ok}
use Rattle.value_forms.specs.Gives.{Stops}
use Rattle.value_forms.proofs.StopLaws.{tells_err}
use Rattle.tla_eval.specs.Parts.{value_at}
use Rattle.eval_scopes.specs.Contexts.{outside, seen_env}
use Rattle.eval_scopes.specs.Scopes.{with_words}
use Rattle.eval_scopes.proofs.ContextLemmas.{seen_all}
use Rattle.tla_eval.proofs.eval.eval_bound.Goals as goal

pub returns-in_err-v : goal.returns-in_err-v
returns-in_err-v g c =
    let ts = c.args.cx.now.pool.now in let ds = c.args.cx.now.defs.now in let env = outside g.N.Names.look c.args.cx.now in let s = c.in_err-v.field-0.0 in
    let all = ap (λ l. seen_env ts ds (length l) env) c.as_slice.ensures ∙ seen_all ts ds env in
    tells_err c.from_residual.result s _ c.from_residual.ensures (subst (λ e. Stops s (value_at ts c.args.e (with_words c.args.bound.now c.args.values.now e))) all c.in_err-v.ensures)

pub returns : goal.returns
returns g c =
    let ts = c.args.cx.now.pool.now in let ds = c.args.cx.now.defs.now in let env = outside g.N.Names.look c.args.cx.now in
    let all = ap (λ l. seen_env ts ds (length l) env) c.as_slice.ensures ∙ seen_all ts ds env in
    ap (λ e. value_at ts c.args.e (with_words c.args.bound.now c.args.values.now e)) (sym all) ∙ c.in_ok-v.ensures ∙ ap (λ w. Ok w) (sym c.in_ok-v-2.ensures)
