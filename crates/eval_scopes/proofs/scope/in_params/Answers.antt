-- Proves what is asked of `in_params`.
use Rattle.std.proofs.Common.{arith, ap, ◌∙◌, drop, ◌+◌}
use Rattle.std.specs.Option.{option_copied}
use Rattle.eval_scopes.specs.Scopes.{rather, word_at}
use Rattle.eval_scopes.proofs.ScopeLoops.{word_here, word_next, word_stop, word_end}
use Rattle.eval_scopes.proofs.scope.in_params.Goals as goal

pub loop-i-preserved : goal.loop-i-preserved
loop-i-preserved c =
    let xs = c.args.names.now in let vs = c.args.values.now in let y = c.args.name.now in let i = c.loop-i.i in
    ap (rather (word_at (drop (i + 1) xs) (drop (i + 1) vs) y)) (c.rather-found.ensures ∙ ap (λ o. rather o (option_copied c.loop-i.found)) (c.if_named-here.ensures ∙ (λ j. word_here (c.index-names-i.is j) (c.index-values-i.is j) y)))
    ∙ word_next xs vs y i c.index-names-i.result c.index-values-i.result (option_copied c.loop-i.found) (word_at xs vs y) (omega arith) (omega arith) c.loop-i.invariant

pub returns-then-i-values : goal.returns-then-i-values
returns-then-i-values c = word_stop c.args.names.now c.args.values.now c.args.name.now c.loop-i.i (option_copied c.loop-i.found) (word_at c.args.names.now c.args.values.now c.args.name.now) (omega arith) c.loop-i.invariant

pub returns : goal.returns
returns c = word_end c.args.names.now c.args.values.now c.args.name.now c.loop-i.i (option_copied c.loop-i.found) (word_at c.args.names.now c.args.values.now c.args.name.now) (omega arith) c.loop-i.invariant
