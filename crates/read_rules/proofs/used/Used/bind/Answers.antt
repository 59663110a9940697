-- Proves that the expression of what a `with` names is met, and that its name is bound then.
use Rattle.std.proofs.Common.{◌∷◌, [], refl, subst}
use Rattle.std.proofs.lemmas.Result.{on_ok_weaker}
use Rattle.tla_tree.specs.Tree.{Name}
use Rattle.algorithm_limits.specs.DepthsIn.{Hides}
use Rattle.read_rules.proofs.BodyLaws.{bind_adds}
use Rattle.read_rules.proofs.used.Used.bind.Goals as goal

pub returns : goal.returns
returns c =
    on_ok_weaker c.add.result
    (λ done.
    bind_adds c.args.pool.now c.args.bind.now c.in-Among.name c.in-Among.e c.args.self.now c.expr.new.self _ c.in-Among.is c.in_ok-expr-in-Among.ensures refl refl
    (subst (λ (n : Name). Hides c.expr.new.self.bound c.add.new.self (n.word ∷ [])) c.name.view_is done)) c.add.ensures
