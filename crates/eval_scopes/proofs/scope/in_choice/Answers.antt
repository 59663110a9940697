-- Proves what is asked of `in_choice`.
use Rattle.std.proofs.Common.{arith, ap, ◌∙◌, drop, get_or, ◌+◌}
use Rattle.std.specs.Option.{option_copied}
use Rattle.eval_scopes.specs.Scopes.{rather, choice_at}
use Rattle.eval_scopes.proofs.ScopeLoops.{choice_here, choice_next, choice_stop, choice_end}
use Rattle.eval_scopes.proofs.scope.in_choice.Goals as goal

pub loop-i-preserved : goal.loop-i-preserved
loop-i-preserved c =
    let xs = c.args.names.now in let ks = c.args.left.now in let y = c.args.name.now in let i = c.loop-i.i in
    ap (rather (choice_at (drop (i + 1) xs) (drop (i + 1) ks) y)) (c.rather-found.ensures ∙ ap (λ o. rather o (option_copied c.loop-i.found)) (c.if_over-here.ensures ∙ (λ j. choice_here (c.index-names-i.is j) (get_or ks i 0) y)))
    ∙ choice_next xs ks y i c.index-names-i.result 0 (option_copied c.loop-i.found) (choice_at xs ks y) (omega arith) (omega arith) c.loop-i.invariant

pub returns-then-i-left : goal.returns-then-i-left
returns-then-i-left c = choice_stop c.args.names.now c.args.left.now c.args.name.now c.loop-i.i (option_copied c.loop-i.found) (choice_at c.args.names.now c.args.left.now c.args.name.now) (omega arith) c.loop-i.invariant

pub returns : goal.returns
returns c = choice_end c.args.names.now c.args.left.now c.args.name.now c.loop-i.i (option_copied c.loop-i.found) (choice_at c.args.names.now c.args.left.now c.args.name.now) (omega arith) c.loop-i.invariant
