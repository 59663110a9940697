-- Proves that the names of declarations are looked at.
use Rattle.std.proofs.Common.{[], ◌∷◌}
use Rattle.pcal_tree.specs.declared.algorithm.Declaration.{Declaration}
use Rattle.declared_rules.proofs.NameLaws.{names_as, names_more, names_all, one_each}
use Rattle.declared_rules.proofs.found.Found.declared.Goals as goal

pub loop-declaration-preserved : goal.loop-declaration-preserved
loop-declaration-preserved c =
    names_more (λ (d : Declaration). d.name ∷ []) c.args.declarations.now c.args.self.now c.loop-declaration.self c.once.new.self c.loop-declaration.declaration-index c.declaration-item.result c.declaration-item.is
    c.loop-declaration-test.true c.loop-declaration.invariant c.in_ok-once.ensures

pub returns : goal.returns
returns c =
    names_as c.args.self.now c.loop-declaration.self _ _ (one_each (λ (d : Declaration). d.name) c.args.declarations.now)
    (names_all (λ (d : Declaration). d.name ∷ []) c.args.declarations.now c.args.self.now c.loop-declaration.self c.loop-declaration.declaration-index c.loop-declaration-test.false c.loop-declaration.invariant)
