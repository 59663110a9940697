-- A definition is measured where its parameters are bound.
use Rattle.std.proofs.Common.{true, List, [], sym, subst, ◌∙◌}
use Rattle.std.proofs.lemmas.Result.{IfOk-weaker}
use Rattle.tla_tree.specs.Tree.{Word, words}
use Rattle.tla_tree.specs.Pool.{at}
use Rattle.algorithm_limits.specs.DepthsIn.{Hides}
use Rattle.module_outside.specs.SightIn.{Binds}
use Rattle.module_outside.proofs.SightLaws.{none_bound, binds_all}
use Rattle.module_outside.proofs.DepthLaws.{definition_is}
use Rattle.module_outside.proofs.depth.depth_within.Goals as goal

pub returns-clause-depth : goal.returns-clause-depth
returns-clause-depth c =
    IfOk-weaker c.tree_depth.result _ _ (λ r h v x s n b.
    definition_is v (record { title = x; params = words c.args.params.now; body = at c.args.pool.now c.args.body; outside = true }) r n
    (sym (c.in_ok-names_fresh.ensures.value v [] s (subst (λ (hs : List Word). Binds hs []) (sym b) none_bound)) ∙ c.if-not-branch.false)
    (h v (words c.args.params.now) s (binds_all c.names_fresh.new.bound (words c.args.params.now)
    (subst (λ (hs : List Word). Hides hs c.names_fresh.new.bound (words c.args.params.now)) b (c.in_ok-names_fresh.ensures.hides c.if-not-branch.false)))))
    c.tree_depth.ensures.depth
