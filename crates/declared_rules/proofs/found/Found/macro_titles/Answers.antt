-- Proves that their names are looked at.
use Rattle.std.proofs.Common.{[], ◌∷◌}
use Rattle.pcal_tree.specs.declared.algorithm.Macro.{Macro}
use Rattle.declared_rules.proofs.NameLaws.{names_as, names_more, names_all, one_each}
use Rattle.declared_rules.proofs.found.Found.macro_titles.Goals as goal

pub loop-one-preserved : goal.loop-one-preserved
loop-one-preserved c =
    names_more (λ (d : Macro). d.name ∷ []) c.args.list.now c.args.self.now c.loop-one.self c.once.new.self c.loop-one.one-index c.one-item.result c.one-item.is c.loop-one-test.true
    c.loop-one.invariant c.in_ok-once.ensures

pub returns : goal.returns
returns c =
    names_as c.args.self.now c.loop-one.self _ _ (one_each (λ (d : Macro). d.name) c.args.list.now)
    (names_all (λ (d : Macro). d.name ∷ []) c.args.list.now c.args.self.now c.loop-one.self c.loop-one.one-index c.loop-one-test.false c.loop-one.invariant)
