-- Proves that all that a `with` names is looked at.
use Rattle.std.proofs.Common.{ℕ, [], ◌∷◌, ◌∙◌, refl, subst}
use Rattle.tla_tree.specs.Tree.{Name}
use Rattle.tla_tree.specs.Pool.{at}
use Rattle.pcal_tree.specs.OffencesRebind.{any_name, tree_rebinds}
use Rattle.algorithm_limits.specs.DepthsIn.{Hides}
use Rattle.declared_rules.specs.declared.bind_walk.Walk.{Walk}
use Rattle.declared_rules.specs.Parts.{bind_name}
use Rattle.declared_rules.specs.Bodies.{bind_number}
use Rattle.declared_rules.specs.Telling.{Adds}
use Rattle.declared_rules.proofs.BindBodyLaws.{bind_adds, binds_step, binds_done}
use Rattle.declared_rules.proofs.bind_walk.Walk.binds.Goals as goal

pub loop-bind-init : goal.loop-bind-init
loop-bind-init c = λ k g. g

pub loop-bind-preserved : goal.loop-bind-preserved
loop-bind-preserved c = λ k g.
    let s = c.args.sight.now in
    let ts = c.args.pool.now in
    let b = c.bind-item.result in
    let last : Walk = record { bound = c.add.new.self; first = c.expr.new.self.first; free = c.expr.new.self.free } in
    c.loop-bind.invariant k
    (binds_step s ts c.loop-bind.self last k c.args.list.now c.loop-bind.bind-index b c.bind-item.is c.loop-bind-test.true
    (bind_adds s any_name c.loop-bind.self c.expr.new.self last (bind_name b).word (λ ms r. tree_rebinds ms any_name (at ts (bind_number b)) r)
    (subst (λ (n : ℕ). Adds s any_name c.loop-bind.self c.expr.new.self (λ ms r. tree_rebinds ms any_name (at ts n) r)) c.expression.ensures (c.in_ok-expr.ensures any_name)) refl refl
    (subst (λ (n : Name). Hides c.expr.new.self.bound c.add.new.self (n.word ∷ [])) (c.name.view_is ∙ c.named-name.ensures) c.in_ok-add.ensures)) g)

pub returns : goal.returns
returns c = c.loop-bind.invariant c.loop-bind.self (binds_done c.args.sight.now c.args.pool.now c.loop-bind.self c.args.list.now c.loop-bind.bind-index c.loop-bind-test.false)
