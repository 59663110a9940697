-- Proves that the names of declarations get theirs.
use Rattle.std.proofs.Common.{[], ◌∷◌, ap}
use Rattle.pcal_tree.specs.declared.algorithm.Declaration.{Declaration}
use Rattle.written_names.proofs.Given.{gives_as}
use Rattle.written_names.proofs.UnitWalks.{declared_more, declared_all}
use Rattle.written_names.proofs.units.name_declared.Goals as goal

pub loop-declaration-preserved : goal.loop-declaration-preserved
loop-declaration-preserved c =
    declared_more c.args.giver.now c.loop-declaration.giver c.name_one.new.giver c.args.into.now c.loop-declaration.into c.name_one.new.into c.args.declarations.now c.loop-declaration.declaration-index c.declaration-item.result c.declaration-item.is c.loop-declaration-test.true
    c.loop-declaration.invariant
    (gives_as c.loop-declaration.giver c.name_one.new.giver c.loop-declaration.into c.name_one.new.into _ _ (ap (λ (d : Declaration). d.name.word ∷ []) c.declaration.view_is) c.in_ok-name_one.ensures)

pub returns : goal.returns
returns c = declared_all c.args.giver.now c.loop-declaration.giver c.args.into.now c.loop-declaration.into c.args.declarations.now c.loop-declaration.declaration-index c.loop-declaration-test.false c.loop-declaration.invariant
