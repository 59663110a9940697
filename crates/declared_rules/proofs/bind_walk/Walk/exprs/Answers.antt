-- Proves that expressions are looked at.
use Rattle.std.proofs.Common.{ℕ, slice_index_or}
use Rattle.std.proofs.lemmas.List.{get_or_default}
use Rattle.tla_tree.specs.Pool.{at}
use Rattle.pcal_tree.specs.OffencesRebind.{tree_rebinds, any_name}
use Rattle.declared_rules.proofs.TellLaws.{adds_as, list_then, list_done}
use Rattle.declared_rules.proofs.ExprLaws.{each_is}
use Rattle.declared_rules.proofs.bind_walk.Walk.exprs.Goals as goal

pub loop-i-init : goal.loop-i-init
loop-i-init c = λ k g. g

pub loop-i-preserved : goal.loop-i-preserved
loop-i-preserved c = λ k g.
    let e = slice_index_or c.args.es.now c.loop-i.i 0 in
    c.loop-i.invariant k
    (list_then c.args.sight.now any_name (λ (e : ℕ) ms r. tree_rebinds ms any_name (at c.args.pool.now e) r) c.loop-i.self c.expr.new.self k c.args.es.now c.loop-i.i e (get_or_default c.args.es.now c.loop-i.i 0 e c.loop-i-test.true) c.loop-i-test.true
    (c.in_ok-expr.ensures any_name) g)

pub returns : goal.returns
returns c =
    adds_as c.args.sight.now any_name c.args.self.now c.loop-i.self _ _ (λ ms r. each_is ms any_name c.args.pool.now c.args.es.now r)
    (c.loop-i.invariant c.loop-i.self (list_done c.args.sight.now any_name (λ (e : ℕ) ms r. tree_rebinds ms any_name (at c.args.pool.now e) r) c.loop-i.self c.args.es.now c.loop-i.i c.loop-i-test.false))
