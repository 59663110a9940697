-- Proves that the names of a list are looked at.
use Rattle.std.proofs.Common.{[], ◌∷◌, ◌∙◌}
use Rattle.tla_tree.specs.Tree.{Name}
use Rattle.declared_rules.proofs.NameLaws.{names_as, names_more, names_all, one_each, themselves}
use Rattle.declared_rules.proofs.found.Found.names.Goals as goal

pub loop-name-preserved : goal.loop-name-preserved
loop-name-preserved c =
    names_more (λ (n : Name). n ∷ []) c.args.names.now c.args.self.now c.loop-name.self c.once.new.self c.loop-name.name-index c.name-item.result c.name-item.is c.loop-name-test.true
    c.loop-name.invariant c.in_ok-once.ensures

pub returns : goal.returns
returns c =
    names_as c.args.self.now c.loop-name.self _ _ (one_each (λ (n : Name). n) c.args.names.now ∙ themselves c.args.names.now)
    (names_all (λ (n : Name). n ∷ []) c.args.names.now c.args.self.now c.loop-name.self c.loop-name.name-index c.loop-name-test.false c.loop-name.invariant)
