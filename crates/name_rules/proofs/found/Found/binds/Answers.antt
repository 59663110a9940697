-- Proves that all that a `with` names is looked at, and bound.
use Rattle.std.proofs.Common.{ℕ, [], ◌∷◌, ◌∙◌, refl, subst}
use Rattle.tla_tree.specs.Tree.{Name}
use Rattle.tla_tree.specs.Pool.{at}
use Rattle.pcal_tree.specs.OffencesNames.{in_whole}
use Rattle.algorithm_limits.specs.DepthsIn.{Hides}
use Rattle.name_rules.specs.declared.found.Found.{Found}
use Rattle.name_rules.specs.Finding.{Tells}
use Rattle.name_rules.proofs.BodyLaws.{bind_named, binds_then, binds_done}
use Rattle.name_rules.proofs.found.Found.binds.Goals as goal

pub loop-bind-init : goal.loop-bind-init
loop-bind-init c = λ k g. g

pub loop-bind-preserved : goal.loop-bind-preserved
loop-bind-preserved c = λ k g.
    let ts = c.args.pool.now in
    let b = c.bind-item.result in
    let last : Found = record { first = c.expr.new.self.first; free = c.expr.new.self.free; bound = c.add.new.self } in
    c.loop-bind.invariant k
    (binds_then ts c.loop-bind.self last k c.args.list.now c.loop-bind.bind-index b c.bind-item.is c.loop-bind-test.true
    (bind_named ts b c.loop-bind.self c.expr.new.self last (subst (λ (n : ℕ). Tells c.loop-bind.self c.expr.new.self (in_whole (at ts n))) c.expression.ensures c.in_ok-expr.ensures) refl refl
    (subst (λ (n : Name). Hides c.expr.new.self.bound c.add.new.self (n.word ∷ [])) (c.name.view_is ∙ c.named-name.ensures) c.in_ok-add.ensures)) g)

pub returns : goal.returns
returns c = c.loop-bind.invariant c.loop-bind.self (binds_done c.args.pool.now c.loop-bind.self c.args.list.now c.loop-bind.bind-index c.loop-bind-test.false)
