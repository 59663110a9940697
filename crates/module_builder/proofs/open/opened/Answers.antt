-- Proves that macro calls are written out and macros stay, and when it is refused.
use Rattle.std.proofs.Common.{Err, sym, ap, ◌∙◌}
use Rattle.std.proofs.lemmas.Result.{err_from_is_err_and}
use Rattle.pcal_tree.specs.Algorithm as pure
use Rattle.pcal_tree.proofs.InMemoryGrown.{algorithm_at-kept}
use Rattle.module_builder.proofs.open.opened.Goals as goal

pub returns-in_err-made-clause-refused : goal.returns-in_err-made-clause-refused
returns-in_err-made-clause-refused c = λ q.
    let r = err_from_is_err_and c.from_residual.result c.from_residual.ensures.1 in
    let k = c.in_err-made.ensures.refused q in (λ e. k.0 (sym (r.1 ∙ ap Err r.2) ∙ e), λ e. r.1 ∙ ap Err r.2 ∙ k.1 e)

pub returns-clause-made : goal.returns-clause-made
returns-clause-made c =
    let a = c.args.algorithm in
    let same = ap (λ (b : pure.Algorithm). b.macros) (algorithm_at-kept c.args.pool.now c.expand.new.pool c.in_ok-made.ensures.kept a c.requires) in λ j. record (c.in_ok-made.ensures.made j) { macros = same j }
