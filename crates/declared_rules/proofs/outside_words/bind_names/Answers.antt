-- Proves that names are bound.
use Rattle.std.proofs.Common.{[], ◌∷◌}
use Rattle.tla_tree.specs.Tree.{Word}
use Rattle.algorithm_limits.proofs.BoundLemmas.{hides_as}
use Rattle.declared_rules.proofs.OutsideLaws.{hides_more, hides_all, one_word}
use Rattle.declared_rules.proofs.outside_words.bind_names.Goals as goal

pub loop-name-preserved : goal.loop-name-preserved
loop-name-preserved c =
    hides_more (λ (w : Word). w ∷ []) c.args.names.now c.args.bound.now c.loop-name.bound c.add.new.self c.loop-name.name-index c.name-item.result c.name-item.is c.loop-name-test.true c.loop-name.invariant c.in_ok-add.ensures

pub returns : goal.returns
returns c =
    hides_as c.args.bound.now c.loop-name.bound _ _ (one_word c.args.names.now)
    (hides_all (λ (w : Word). w ∷ []) c.args.names.now c.args.bound.now c.loop-name.bound c.loop-name.name-index c.loop-name-test.false c.loop-name.invariant)
